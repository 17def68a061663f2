-- What the byte matcher means: wherever a pattern's wildcards are well placed it answers as the document's definition, level by level. The induction walks the
-- pattern's bytes, and its flag `fresh` says that a level begins here: mid-level the first levels go on as plain ones. Assumes nothing.
use Rattle.std.proofs.Common.{◌≡◌, ℕ, Bool, true, false, not, ◌&&◌, eqb, List, [], ◌∷◌, sym, refl, ap, ◌∙◌, eqb-true}
use mathlib.Core.Bool.{false≢true, or-true, and_assoc, and-eq-true_iff}
use Rattle.laws.specs.Lists.{none}
use Rattle.laws.proofs.Cases.{by}
use Rattle.slices.specs.Bytes.{same, starts_with}
use Rattle.topics.specs.Levels.{first_level, rest_levels, levels, level_ends, is_hash, is_plus}
use Rattle.topics.specs.Meaning.{Meaning}
use Rattle.topics.specs.Matching.{match_levels, from_slash, takes_none, takes_end, match_bytes, dollar_apart}
use Rattle.topics.proofs.ByteLaws.{Sort, slash, hash, plus, other, sort, turned}
use Rattle.topics.proofs.patterns.Placed.{placed, placed-levels}

-- the document's definition, from mid-level too
abbrev match_at : Bool → Bool → List ℕ → List ℕ → Bool
match_at f true t p = match_levels f (levels t) (levels p)
match_at f false t p = same (first_level p) (first_level t) && match_levels f (rest_levels t) (rest_levels p)

-- levels of a topic
none_levels : (t : List ℕ) → none t ≡ (same [] (first_level t) && none (rest_levels t))
unfolding first_level rest_levels same
none_levels [] = refl
none_levels (c ∷ t) = by (eqb c 47) (λ e. rw (e, first_level, rest_levels)) (λ e. rw (e, first_level))

no_levels : (f : Bool) (ts : List (List ℕ)) → match_levels f ts [] ≡ none ts
unfolding match_levels
no_levels f [] = refl
no_levels f (t ∷ ts) = refl

first_from : (t : List ℕ) → first_level (from_slash t) ≡ []
unfolding first_level from_slash
first_from [] = refl
first_from (c ∷ t) = by (eqb c 47) (λ e. rw (e, from_slash, e, first_level)) (λ e. rw (e, from_slash) (first_from t))

rest_from : (t : List ℕ) → rest_levels (from_slash t) ≡ rest_levels t
unfolding rest_levels from_slash
rest_from [] = refl
rest_from (c ∷ t) = by (eqb c 47) (λ e. rw (e, from_slash)) (λ e. rw (e, from_slash, rest_levels) (rest_from t))

pub some_level : (x : ℕ) (t : List ℕ) → (none (first_level (x ∷ t)) && none (rest_levels (x ∷ t))) ≡ false
unfolding first_level rest_levels
some_level x t = by (eqb x 47) (λ e. rw (e, first_level, rest_levels)) (λ e. rw (e, first_level))

-- levels of a pattern
pub ended : (p : List ℕ) → level_ends p ≡ true → first_level p ≡ []
unfolding first_level
ended [] u = refl
ended (c ∷ p) u = rw (u, first_level)

pub not_wild : (w c : ℕ) (p : List ℕ) → eqb c 47 ≡ false → eqb c w ≡ false → same (w ∷ []) (first_level (c ∷ p)) ≡ false
unfolding first_level same
not_wild w c p s h = rw (s, first_level, turned c w h)

pub begins_hash : (p : List ℕ) → placed true p ≡ true → starts_with 35 p ≡ is_hash (first_level p)
unfolding placed first_level same
begins_hash [] u = refl
begins_hash (c ∷ p) u = cases (sort c) p u
  where
    cases : {c : ℕ} → Sort c → (p : List ℕ) → placed true (c ∷ p) ≡ true → starts_with 35 (c ∷ p) ≡ is_hash (first_level (c ∷ p))
    cases slash p u = refl
    cases hash [] u = refl
    cases hash (d ∷ p) u = absurd (false≢true u)
    cases plus p u = refl
    cases {c} (other s h q) p u = h ∙ sym (not_wild 35 c p s h)

none_hash : (f : Bool) (p : List ℕ) → level_ends p ≡ true → placed false p ≡ true → takes_none p ≡ match_levels f [] (rest_levels p)
unfolding placed takes_none rest_levels match_levels
none_hash f [] e u = refl
none_hash f (c ∷ p) e u = cases (sort c) e u
  where
    cases : {c : ℕ} → Sort c → level_ends (c ∷ p) ≡ true → placed false (c ∷ p) ≡ true → takes_none (c ∷ p) ≡ match_levels f [] (rest_levels (c ∷ p))
    cases slash e u = begins_hash p u
    cases hash e u = absurd (false≢true e)
    cases plus e u = absurd (false≢true e)
    cases (other s h q) e u = absurd (false≢true (sym s ∙ e))

-- where the pattern's level is no wildcard it does not matter whether one begins
at_plain : (f fresh : Bool) (t p : List ℕ) → is_hash (first_level p) ≡ false → is_plus (first_level p) ≡ false → match_at f false t p ≡ match_at f fresh t p
unfolding match_levels
at_plain f true t p h q = rw (h, q, match_levels)
at_plain f false t p h q = refl

-- nothing is left of the pattern
no_pattern : (f fresh : Bool) (t : List ℕ) → match_bytes f t [] ≡ match_at f fresh t []
unfolding match_bytes first_level rest_levels same
no_pattern f fresh t = none_levels t ∙ rw (← no_levels f (rest_levels t)) (at_plain f fresh t [] refl refl)

-- nothing is left of the topic
no_plus : (f : Bool) (c : ℕ) (p : List ℕ) → eqb c 43 ≡ false → takes_end f (c ∷ p) ≡ takes_none (c ∷ p)
unfolding takes_end
no_plus true c p q = rw (q, takes_end)
no_plus false c p q = refl

no_topic : (f fresh : Bool) {c : ℕ} (p : List ℕ) → Sort c → placed fresh (c ∷ p) ≡ true → match_bytes f [] (c ∷ p) ≡ match_at f fresh [] (c ∷ p)
unfolding placed match_bytes takes_end takes_none match_levels first_level rest_levels same
no_topic f fresh p slash u = no_plus f 47 p refl ∙ begins_hash p u ∙ at_plain f fresh [] (47 ∷ p) refl refl
no_topic f true [] hash u = no_plus f 35 [] refl
no_topic f true (d ∷ p) hash u = absurd (false≢true u)
no_topic f false p hash u = absurd (false≢true u)
no_topic true true p plus u =
    let w = (and-eq-true_iff (level_ends p) (placed false p)).0 u in
    rw (ended p w.0) (none_hash true p w.0 w.1)
no_topic false true p plus u = rw (ended p ((and-eq-true_iff (level_ends p) (placed false p)).0 u).0)
no_topic f false p plus u = absurd (false≢true u)
no_topic f fresh {c} p (other s h q) u =
    let m : takes_none (c ∷ p) ≡ match_at f false [] (c ∷ p) = rw (h, s, takes_none, first_level) in
    no_plus f c p q ∙ m ∙ at_plain f fresh [] (c ∷ p) (not_wild 35 c p s h) (not_wild 43 c p s q)

-- a byte of each
each
    : (f fresh : Bool) (x : ℕ) (t : List ℕ) {c : ℕ} (p : List ℕ) → Sort c → placed fresh (c ∷ p) ≡ true
    → ((g : Bool) (s : List ℕ) → placed g p ≡ true → match_bytes f s p ≡ match_at f g s p) → match_bytes f (x ∷ t) (c ∷ p) ≡ match_at f fresh (x ∷ t) (c ∷ p)
unfolding placed match_bytes match_levels first_level rest_levels same
each f fresh x t p slash u ih =
    by {P = (eqb 47 x && match_bytes f t p) ≡ match_at f false (x ∷ t) (47 ∷ p)} (eqb x 47)
    (λ e. rw (eqb-true x 47 e) (ih true t u))
    (λ e. rw (turned x 47 e, e, first_level))
    ∙ at_plain f fresh (x ∷ t) (47 ∷ p) refl refl
each f true x t [] hash u ih = refl
each f true x t (d ∷ p) hash u ih = absurd (false≢true u)
each f false x t p hash u ih = absurd (false≢true u)
each f true x t p plus u ih =
    let w = (and-eq-true_iff (level_ends p) (placed false p)).0 u in
    rw (ih false (from_slash (x ∷ t)) w.1, first_from (x ∷ t), rest_from (x ∷ t), ended p w.0, some_level x t, or-true f)
each f false x t p plus u ih = absurd (false≢true u)
each f fresh x t {c} p (other s h q) u ih =
    let w : placed false p ≡ true = rw (h, q, s, placed) at u in
    by {P = match_bytes f (x ∷ t) (c ∷ p) ≡ match_at f false (x ∷ t) (c ∷ p)} (eqb x 47)
    (λ e. rw (h, q, match_bytes, eqb-true x 47 e, s, first_level))
    (λ e. rw (h, q, s, e, match_bytes, first_level, rest_levels, ih false t w) (sym (and_assoc (eqb c x) (same (first_level p) (first_level t)) _)))
    ∙ at_plain f fresh (x ∷ t) (c ∷ p) (not_wild 35 c p s h) (not_wild 43 c p s q)

-- the rest of a topic under the rest of a pattern
meaning_at : (f fresh : Bool) (t p : List ℕ) → placed fresh p ≡ true → match_bytes f t p ≡ match_at f fresh t p
meaning_at f fresh t [] u = no_pattern f fresh t
meaning_at f fresh [] (c ∷ p) u = no_topic f fresh p (sort c) u
meaning_at f fresh (x ∷ t) (c ∷ p) u = each f fresh x t p (sort c) u (λ g s w. meaning_at f g s p w)

-- for every topic, and every pattern whose wildcards are well placed
pub meaning : Meaning
meaning f d t p u = ap (λ (b : Bool). not (d && dollar_apart t p) && b) (meaning_at f true t p (placed-levels p ∙ u))
