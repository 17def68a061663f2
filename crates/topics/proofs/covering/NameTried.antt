-- The same for names, which have a byte: the levels are neither none nor one empty level. Where the filling of `q` would be no name, a longer one decides.
-- Assumes nothing.
use Rattle.std.proofs.Common.{◌≡◌, ℕ, Bool, true, false, cond, not, ◌&&◌, ◌||◌, List, [], ◌∷◌, sym, refl, ◌∙◌}
use mathlib.Core.Bool.{or-true, false≢true}
use Rattle.laws.specs.Lists.{none}
use Rattle.slices.specs.Bytes.{same}
use Rattle.topics.specs.Levels.{is_hash, is_plus}
use Rattle.topics.specs.Matching.{match_levels}
use Rattle.laws.proofs.Cases.{by}
use Rattle.topics.proofs.covering.TriedLaws.{Tried, no_levels, fill, letter, tried, takes_all, no_both, hash_takes, plus_takes, plain_takes, plus_both, plain_both}

-- levels of a text with at least one byte
abbrev pub has_byte : List (List ℕ) → Bool
has_byte [] = false
has_byte (t ∷ ts) = not (none t && none ts)

-- what stands for `#`: nothing, an empty level, one level, two
pub data End : Type 0 where
  nothing : End
  empty : End
  one : End
  two : End

abbrev pub end_of : End → ℕ → List (List ℕ)
end_of nothing x = []
end_of empty x = [] ∷ []
end_of one x = (x ∷ []) ∷ []
end_of two x = (x ∷ []) ∷ (x ∷ []) ∷ []

-- `p` takes each of the eight that is a name
abbrev pub NameTried : Bool → List (List ℕ) → List (List ℕ) → Type 0
NameTried f qs ps = (b : Bool) (e : End) → has_byte (fill (letter b) (end_of e (letter b)) qs) ≡ true → match_levels f (fill (letter b) (end_of e (letter b)) qs) ps ≡ true

-- a first level that is taken by "a" and by "b" is no plain one: `#` takes all, and after `+` the rest decides
wild_first
    : (f : Bool) (t p : List ℕ) (ts us ps : List (List ℕ)) → ((b : Bool) → match_levels f ((letter b ∷ []) ∷ us) (p ∷ ps) ≡ true)
    → (is_hash p ≡ false → is_plus p ≡ true → match_levels f (t ∷ ts) (p ∷ ps) ≡ true) → match_levels f (t ∷ ts) (p ∷ ps) ≡ true
wild_first f t p ts us ps u g =
    by (is_hash p)
    (λ e. hash_takes f t p ts ps e)
    (λ h.
    by (is_plus p)
    (λ e. g h e)
    (λ e. absurd (no_both p (plain_both f (97 ∷ []) p us ps h e (u true)).0 (plain_both f (98 ∷ []) p us ps h e (u false)).0)))

-- a pattern that takes one level and two takes all that a first `+` lets pass
long
    : (f : Bool) (ps : List (List ℕ)) → ((b : Bool) → match_levels f ((letter b ∷ []) ∷ []) ps ≡ true) → match_levels f ((97 ∷ []) ∷ (97 ∷ []) ∷ []) ps ≡ true
    → (t : List ℕ) (ts : List (List ℕ)) → (f || not (none t && none ts)) ≡ true → match_levels f (t ∷ ts) ps ≡ true
long f [] u v t ts w = absurd (false≢true (sym (no_levels f _ []) ∙ u true))
long f (p ∷ ps) u v t ts w =
    wild_first f t p ts [] ps u
    (λ h e.
    rw (plus_takes f t p ts ps h e, w)
    (takes_all f (97 ∷ []) ps (plus_both f (97 ∷ []) p [] ps h e (u true)).1 (plus_both f (97 ∷ []) p ((97 ∷ []) ∷ []) ps h e v).1 ts))

-- and one that takes an empty level too takes every list of levels but none
longer
    : (f : Bool) (ps : List (List ℕ)) → ((b : Bool) → match_levels f ((letter b ∷ []) ∷ []) ps ≡ true) → match_levels f ((97 ∷ []) ∷ (97 ∷ []) ∷ []) ps ≡ true
    → match_levels f ([] ∷ []) ps ≡ true → (t : List ℕ) (ts : List (List ℕ)) → match_levels f (t ∷ ts) ps ≡ true
longer true ps u v z t ts = long true ps u v t ts refl
longer false [] u v z t ts = absurd (false≢true (sym (no_levels false _ []) ∙ z))
longer false (p ∷ ps) u v z t ts =
    wild_first false t p ts [] ps u (λ h e. absurd (false≢true (plus_both false [] p [] ps h e z).0))

-- `q` is "" and then `#`
slash_all
    : (f : Bool) (ps : List (List ℕ)) (u : List ℕ) (us : List (List ℕ)) → ((b : Bool) → match_levels f ([] ∷ (letter b ∷ []) ∷ []) ps ≡ true)
    → match_levels f ([] ∷ (97 ∷ []) ∷ (97 ∷ []) ∷ []) ps ≡ true → match_levels f ([] ∷ [] ∷ []) ps ≡ true → match_levels f ([] ∷ u ∷ us) ps ≡ true
slash_all f [] u us a v z = absurd (false≢true (sym (no_levels f _ _) ∙ z))
slash_all f (p ∷ ps) u us a v z =
    by (is_hash p)
    (λ e. hash_takes f [] p (u ∷ us) ps e)
    (λ h.
    by (is_plus p)
    (λ e.
    rw (plus_takes f [] p (u ∷ us) ps h e, or-true f)
    (longer f ps (λ b. (plus_both f [] p _ ps h e (a b)).1) (plus_both f [] p _ ps h e v).1 (plus_both f [] p _ ps h e z).1 u us))
    (λ e.
    rw (plain_takes f [] p (u ∷ us) ps h e, (plain_both f [] p ([] ∷ []) ps h e z).0)
    (longer f ps (λ b. (plain_both f [] p _ ps h e (a b)).1) (plain_both f [] p _ ps h e v).1 (plain_both f [] p _ ps h e z).1 u us)))

-- a level is as empty as its filling
first_none : (x : ℕ) (q : List ℕ) → none (cond (is_plus q) (x ∷ []) q) ≡ none q
unfolding same
first_none x [] = refl
first_none x (c ∷ q) = by (is_plus (c ∷ q)) (λ e. rw e) (λ e. rw e)

-- a filling is a name wherever the pattern's first level has a byte or the rest is not just `#`
fill_name : (x : ℕ) (e : List (List ℕ)) (q : List ℕ) (qs : List (List ℕ)) → is_hash q ≡ false → (none q && none (fill x e qs)) ≡ false → has_byte (fill x e (q ∷ qs)) ≡ true
unfolding fill
fill_name x e q qs h n = rw (h, fill, first_none x q, n)

-- the four of `tried` are among the eight
four : (f : Bool) (qs ps : List (List ℕ)) → NameTried f qs ps → ((b : Bool) (e : End) → has_byte (fill (letter b) (end_of e (letter b)) qs) ≡ true) → Tried f qs ps
four f qs ps h n b true = h b nothing (n b nothing)
four f qs ps h n b false = h b one (n b one)

-- an empty first level of a name has another after it
slash_name
    : (f : Bool) (t : List ℕ) (ts ps : List (List ℕ)) → same [] t ≡ true → not (none t && none ts) ≡ true
    → ((u : List ℕ) (us : List (List ℕ)) → match_levels f ([] ∷ u ∷ us) ps ≡ true) → match_levels f (t ∷ ts) ps ≡ true
unfolding same
slash_name f [] [] ps s n g = absurd (false≢true n)
slash_name f [] (u ∷ us) ps s n g = g u us
slash_name f (c ∷ t) ts ps s n g = absurd (false≢true s)

-- the empty pattern takes no name
no_name : (f : Bool) (t : List ℕ) (ts : List (List ℕ)) → same [] t ≡ true → match_levels f ts [] ≡ true → not (none t && none ts) ≡ true → ⊥
unfolding same match_levels
no_name f [] [] s m n = false≢true n
no_name f [] (u ∷ us) s m n = false≢true m
no_name f (c ∷ t) ts s m n = false≢true s

-- the first level of `q` is not `#`
some
    : (f : Bool) (q : List ℕ) (qs : List (List ℕ)) (t : List ℕ) (ts ps : List (List ℕ)) → NameTried f (q ∷ qs) ps → not (none t && none ts) ≡ true
    → match_levels f (t ∷ ts) (q ∷ qs) ≡ true → is_hash q ≡ false → match_levels f (t ∷ ts) ps ≡ true
unfolding fill same
some f (c ∷ q) qs t ts ps h n m k = tried f ((c ∷ q) ∷ qs) (t ∷ ts) ps (four f ((c ∷ q) ∷ qs) ps h (λ b e. fill_name (letter b) (end_of e (letter b)) (c ∷ q) qs k refl)) m
some f [] [] t ts ps h n m k = let r = plain_both f t [] ts [] refl refl m in absurd (no_name f t ts r.0 r.1 n)
some f [] (r ∷ qs) t ts ps h n m k =
    by (is_hash r)
    (λ e.
    slash_name f t ts ps (plain_both f t [] ts (r ∷ qs) refl refl m).0 n
    (λ u us.
    slash_all f ps u us (λ b. rw (e, fill) at (h b one (rw (e, fill)))) (rw (e, fill) at (h true two (rw (e, fill)))) (rw (e, fill) at (h true empty (rw (e, fill))))))
    (λ e. tried f ([] ∷ r ∷ qs) (t ∷ ts) ps (four f ([] ∷ r ∷ qs) ps h (λ b d. fill_name (letter b) (end_of d (letter b)) [] (r ∷ qs) k (rw (e, fill)))) m)

-- every name
pub name_tried
    : (f : Bool) (q : List ℕ) (qs : List (List ℕ)) (t : List ℕ) (ts ps : List (List ℕ)) → NameTried f (q ∷ qs) ps → not (none t && none ts) ≡ true
    → match_levels f (t ∷ ts) (q ∷ qs) ≡ true → match_levels f (t ∷ ts) ps ≡ true
unfolding fill
name_tried f q qs t ts ps h n m =
    by (is_hash q)
    (λ e.
    long f ps (λ b. rw (e, fill) at (h b one (rw (e, fill)))) (rw (e, fill) at (h true two (rw (e, fill)))) t ts (rw (n, or-true f)))
    (λ k. some f q qs t ts ps h n m k)
