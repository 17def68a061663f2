-- A few lists of levels decide whether `p` takes all that `q` takes: each `+` of `q` filled with "a" or with "b" everywhere, its `#` with nothing or one level.
-- By induction on the levels; no premise on the patterns. Assumes nothing.
use Rattle.std.proofs.Common.{◌≡◌, ℕ, Bool, true, false, cond, not, ◌&&◌, ◌||◌, List, [], ◌∷◌, sym, refl, ◌∙◌, arith}
use mathlib.Core.Bool.{and-false, or-true, false≢true}
use Rattle.laws.specs.Lists.{none}
use Rattle.slices.specs.Bytes.{same}
use Rattle.topics.specs.Levels.{is_hash, is_plus}
use Rattle.topics.specs.Matching.{match_levels}
use Rattle.laws.proofs.Tests.{both}
use Rattle.laws.proofs.Cases.{by}
use Rattle.slices.proofs.bytes.SameLaws.{same-true}

-- the levels of a pattern, with `x` for `+` and the levels `e` for `#`
unfoldable pub fill : ℕ → List (List ℕ) → List (List ℕ) → List (List ℕ)
fill x e [] = []
fill x e (q ∷ qs) = elim (is_hash q) [ true ↦ e | false ↦ cond (is_plus q) (x ∷ []) q ∷ fill x e qs ]

-- the two letters
abbrev pub letter : Bool → ℕ
letter true = 97
letter false = 98

-- what stands for `#`: nothing, or one level
abbrev pub ending : Bool → Bool → List (List ℕ)
ending b true = []
ending b false = (letter b ∷ []) ∷ []

-- `p` takes each of the four
abbrev pub Tried : Bool → List (List ℕ) → List (List ℕ) → Type 0
Tried f qs ps = (b c : Bool) → match_levels f (fill (letter b) (ending b c) qs) ps ≡ true

-- a pattern that takes nothing and one level takes all
pub takes_all : (f : Bool) (t : List ℕ) (ps : List (List ℕ)) → match_levels f [] ps ≡ true → match_levels f (t ∷ []) ps ≡ true → (us : List (List ℕ)) → match_levels f us ps ≡ true
unfolding match_levels
takes_all f t [] u v us = absurd (false≢true v)
takes_all f t (p ∷ ps) u v [] = u
takes_all f t (p ∷ ps) u v (w ∷ us) = rw (u, match_levels)

-- where `q` takes no more levels its filling ends too
ends_alike
    : (f : Bool) (x : ℕ) (q : List ℕ) (ts qs : List (List ℕ)) → match_levels f ts qs ≡ true → (f || not (none q && none (fill x [] qs))) ≡ true
    → (f || not (none q && none ts)) ≡ true
unfolding match_levels fill
ends_alike f x q (t ∷ ts) qs m u = rw (and-false (none q), or-true f)
ends_alike f x q [] [] m u = u
ends_alike f x q [] (r ∷ qs) m u = rw (m, fill) at u

-- no level is both letters
pub no_both : (p : List ℕ) → same p (97 ∷ []) ≡ true → same p (98 ∷ []) ≡ true → ⊥
no_both p u v =
    let e : ◌≡◌ {A = List ℕ} (97 ∷ []) (98 ∷ []) = sym (same-true p _ u) ∙ same-true p _ v in
    let z : ◌≡◌ {A = ℕ} 97 98 = cc in omega arith

-- nothing is left of both
pub none_taken : (f : Bool) → match_levels f [] [] ≡ true
unfolding match_levels
none_taken f = refl

-- no level is left of the pattern
pub no_levels : (f : Bool) (t : List ℕ) (ts : List (List ℕ)) → match_levels f (t ∷ ts) [] ≡ false
unfolding match_levels
no_levels f t ts = refl

-- a level that is `#`, one that is `+`, and one that is plain
pub hash_takes : (f : Bool) (t p : List ℕ) (ts ps : List (List ℕ)) → is_hash p ≡ true → match_levels f (t ∷ ts) (p ∷ ps) ≡ true
unfolding match_levels
hash_takes f t p ts ps h = rw (h, match_levels)

module _ (f : Bool) (t p : List ℕ) (ts ps : List (List ℕ)) (h : is_hash p ≡ false) where
  pub plus_takes : is_plus p ≡ true → match_levels f (t ∷ ts) (p ∷ ps) ≡ ((f || not (none t && none ts)) && match_levels f ts ps)
  unfolding match_levels
  plus_takes e = rw (h, e, match_levels)

  pub plain_takes : is_plus p ≡ false → match_levels f (t ∷ ts) (p ∷ ps) ≡ (same p t && match_levels f ts ps)
  unfolding match_levels
  plain_takes e = rw (h, e, match_levels)

  pub plus_both : is_plus p ≡ true → match_levels f (t ∷ ts) (p ∷ ps) ≡ true → ((f || not (none t && none ts)) ≡ true) × (match_levels f ts ps ≡ true)
  plus_both e m = both (f || not (none t && none ts)) (match_levels f ts ps) (sym (plus_takes e) ∙ m)

  pub plain_both : is_plus p ≡ false → match_levels f (t ∷ ts) (p ∷ ps) ≡ true → (same p t ≡ true) × (match_levels f ts ps ≡ true)
  plain_both e m = both (same p t) (match_levels f ts ps) (sym (plain_takes e) ∙ m)

-- one level of each
each
    : (f : Bool) (q t p : List ℕ) (qs ts ps : List (List ℕ)) → is_hash q ≡ false → Tried f (q ∷ qs) (p ∷ ps) → match_levels f (t ∷ ts) (q ∷ qs) ≡ true
    → (Tried f qs ps → match_levels f ts qs ≡ true → match_levels f ts ps ≡ true) → match_levels f (t ∷ ts) (p ∷ ps) ≡ true
unfolding fill
each f q t p qs ts ps n h m ih =
    let g : (b c : Bool) → match_levels f (cond (is_plus q) (letter b ∷ []) q ∷ fill (letter b) (ending b c) qs) (p ∷ ps) ≡ true = λ b c. rw (n, fill) at (h b c) in
    by (is_hash p)
    (λ e. hash_takes f t p ts ps e)
    (λ k.
    by (is_plus p)
    (λ e.
    let on = ih (λ b c. (plus_both f _ p _ ps k e (g b c)).1) in
    rw (plus_takes f t p ts ps k e)
    (by (is_plus q)
    (λ w. let r = plus_both f t q ts qs n w m in rw r.0 (on r.1))
    (λ w.
    let r = plain_both f t q ts qs n w m in
    let u : (f || not (none q && none (fill 97 [] qs))) ≡ true = (plus_both f q p (fill 97 [] qs) ps k e (rw w at (g true true))).0 in
    rw (← same-true q t r.0, ends_alike f 97 q ts qs r.1 u) (on r.1))))
    (λ e.
    let on = ih (λ b c. (plain_both f _ p _ ps k e (g b c)).1) in
    rw (plain_takes f t p ts ps k e)
    (by (is_plus q)
    (λ w. absurd (no_both p (plain_both f _ p _ ps k e (rw w at (g true true))).0 (plain_both f _ p _ ps k e (rw w at (g false true))).0))
    (λ w.
    let r = plain_both f t q ts qs n w m in
    rw (← same-true q t r.0, (plain_both f q p (fill 97 [] qs) ps k e (rw w at (g true true))).0) (on r.1)))))

-- the first level of `q` is not `#`
some
    : (f : Bool) (q : List ℕ) (qs ts ps : List (List ℕ)) → is_hash q ≡ false → Tried f (q ∷ qs) ps → match_levels f ts (q ∷ qs) ≡ true
    → ((us rs : List (List ℕ)) → Tried f qs rs → match_levels f us qs ≡ true → match_levels f us rs ≡ true) → match_levels f ts ps ≡ true
unfolding match_levels fill
some f q qs [] ps n h m ih = absurd (false≢true (sym n ∙ m))
some f q qs (t ∷ ts) [] n h m ih = absurd (false≢true (rw (n, fill) at (h true true)))
some f q qs (t ∷ ts) (p ∷ ps) n h m ih = each f q t p qs ts ps n h m (ih ts ps)

-- for all levels
pub tried : (f : Bool) (qs ts ps : List (List ℕ)) → Tried f qs ps → match_levels f ts qs ≡ true → match_levels f ts ps ≡ true
unfolding match_levels fill
tried f [] [] ps h m = h true true
tried f [] (t ∷ ts) ps h m = absurd (false≢true m)
tried f (q ∷ qs) ts ps h m =
    by (is_hash q)
    (λ e. takes_all f (97 ∷ []) ps (rw (e, fill) at (h true true)) (rw (e, fill) at (h true false)) ts)
    (λ n. some f q qs ts ps n h m (λ us rs. tried f qs us rs))
