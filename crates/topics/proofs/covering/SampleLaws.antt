-- The names that are tried, level by level: of a pattern whose wildcards are well placed they are its levels filled. Assumes nothing.
use Rattle.std.proofs.Common.{◌≡◌, ℕ, ◌+◌, ◌≤◌, Bool, true, false, cond, eqb, List, [], ◌∷◌, length, sym, refl, ◌∙◌, arith}
use mathlib.Core.Bool.{false≢true, and-eq-true_iff}
use Rattle.laws.proofs.Cases.{by}
use Rattle.slices.specs.Bytes.{same, starts_with}
use Rattle.topics.specs.Covering.{sample}
use Rattle.topics.specs.Levels.{first_level, rest_levels, levels, level_ends, is_hash, is_plus}
use Rattle.topics.specs.Patterns.{well_placed}
use Rattle.topics.specs.Matching.{takes_none}
use Rattle.topics.proofs.ByteLaws.{Sort, slash, hash, plus, other, sort}
use Rattle.topics.proofs.matching.Meaning.{ended, not_wild, begins_hash}
use Rattle.topics.proofs.patterns.Placed.{placed, placed-levels}
use Rattle.topics.proofs.covering.TriedLaws.{fill}

-- the bytes of a pattern with `x` for `+` and the bytes `e` for `#`
unfoldable pub filled : ℕ → List ℕ → List ℕ → List ℕ
filled x e [] = []
filled x e (c ∷ q) = elim (eqb c 35) [ true ↦ e | false ↦ cond (eqb c 43) x c ∷ filled x e q ]

-- the same up to a `#`, or a `/#`
unfoldable pub cut : ℕ → List ℕ → List ℕ
cut x [] = []
cut x (c ∷ q) = elim (takes_none (c ∷ q)) [ true ↦ [] | false ↦ cond (eqb c 43) x c ∷ cut x q ]

-- levels of both, from mid-level too
abbrev filled_at : Bool → ℕ → List (List ℕ) → List ℕ → List (List ℕ)
filled_at true x e q = fill x e (levels q)
filled_at false x e q = first_level q ∷ fill x e (rest_levels q)

-- where a plain level begins it does not matter whether one does
at_plain : (fresh : Bool) (x : ℕ) (e : List (List ℕ)) (q : List ℕ) → is_hash (first_level q) ≡ false → is_plus (first_level q) ≡ false → filled_at false x e q ≡ filled_at fresh x e q
unfolding fill
at_plain true x e q h w = rw (h, fill, w)
at_plain false x e q h w = refl

-- a byte before the first level
first_byte : (c : ℕ) (s : List ℕ) (l : List ℕ) (ls : List (List ℕ)) → eqb c 47 ≡ false → levels s ≡ l ∷ ls → levels (c ∷ s) ≡ (c ∷ l) ∷ ls
unfolding first_level rest_levels
first_byte c s l ls n e = rw (n, first_level, rest_levels) (cc)

-- no `#` mid-level
no_hash : (q : List ℕ) → placed false q ≡ true → starts_with 35 q ≡ false
unfolding placed
no_hash [] u = refl
no_hash (c ∷ q) u = by (eqb c 35) (λ e. absurd (false≢true (rw (e, placed) at u))) (λ e. e)

module _ (x : ℕ) (no_slash : eqb x 47 ≡ false) where
  filled_each
      : (fresh : Bool) (e : List ℕ) {c : ℕ} (q : List ℕ) → Sort c → placed fresh (c ∷ q) ≡ true
      → ((g : Bool) → placed g q ≡ true → levels (filled x e q) ≡ filled_at g x (levels e) q) → levels (filled x e (c ∷ q)) ≡ filled_at fresh x (levels e) (c ∷ q)
  unfolding placed filled fill first_level rest_levels same
  filled_each fresh e q slash u ih = rw (ih true u) (at_plain fresh x (levels e) (47 ∷ q) refl refl)
  filled_each true e [] hash u ih = refl
  filled_each true e (d ∷ q) hash u ih = absurd (false≢true u)
  filled_each false e q hash u ih = absurd (false≢true u)
  filled_each true e q plus u ih =
      let w = (and-eq-true_iff (level_ends q) (placed false q)).0 u in
      first_byte x (filled x e q) _ _ no_slash (ih false w.1) ∙ rw (ended q w.0)
  filled_each false e q plus u ih = absurd (false≢true u)
  filled_each fresh e {c} q (other s h p) u ih =
      let w : placed false q ≡ true = rw (h, p, s, placed) at u in
      let m : levels (filled x e (c ∷ q)) ≡ filled_at false x (levels e) (c ∷ q) = rw (h, filled, p, s, first_level, rest_levels) (cc (ih false w)) in
      m ∙ at_plain fresh x (levels e) (c ∷ q) (not_wild 35 c q s h) (not_wild 43 c q s p)

  filled_at_lem : (fresh : Bool) (e q : List ℕ) → placed fresh q ≡ true → levels (filled x e q) ≡ filled_at fresh x (levels e) q
  unfolding filled fill first_level rest_levels same
  filled_at_lem true e [] u = refl
  filled_at_lem false e [] u = refl
  filled_at_lem fresh e (c ∷ q) u = filled_each fresh e q (sort c) u (λ g w. filled_at_lem g e q w)

  cut_each
      : (fresh : Bool) {c : ℕ} (q : List ℕ) → Sort c → placed fresh (c ∷ q) ≡ true → eqb c 35 ≡ false
      → ((g : Bool) → placed g q ≡ true → starts_with 35 q ≡ false → levels (cut x q) ≡ filled_at g x [] q) → levels (cut x (c ∷ q)) ≡ filled_at fresh x [] (c ∷ q)
  unfolding placed cut takes_none fill first_level rest_levels same
  cut_each fresh q slash u n ih =
      by (starts_with 35 q)
      (λ b.
      let z : fill x [] (levels q) ≡ [] = rw (sym (begins_hash q u) ∙ b, fill) in
      let m : [] ∷ [] ≡ filled_at false x [] (47 ∷ q) = rw z in
      rw (b, cut) (m ∙ at_plain fresh x [] (47 ∷ q) refl refl))
      (λ b. rw (b, cut, ih true u b) (at_plain fresh x [] (47 ∷ q) refl refl))
  cut_each fresh q hash u n ih = absurd (false≢true (sym n))
  cut_each true q plus u n ih =
      let w = (and-eq-true_iff (level_ends q) (placed false q)).0 u in
      first_byte x (cut x q) _ _ no_slash (ih false w.1 (no_hash q w.1)) ∙ rw (ended q w.0)
  cut_each false q plus u n ih = absurd (false≢true u)
  cut_each fresh {c} q (other s h p) u n ih =
      let w : placed false q ≡ true = rw (h, p, s, placed) at u in
      let m : levels (cut x (c ∷ q)) ≡ filled_at false x [] (c ∷ q) = rw (h, s, cut, takes_none, p, s, first_level, rest_levels) (cc (ih false w (no_hash q w))) in
      m ∙ at_plain fresh x [] (c ∷ q) (not_wild 35 c q s h) (not_wild 43 c q s p)

  cut_at : (fresh : Bool) (q : List ℕ) → placed fresh q ≡ true → starts_with 35 q ≡ false → levels (cut x q) ≡ filled_at fresh x [] q
  unfolding cut fill first_level rest_levels same
  cut_at true [] u b = refl
  cut_at false [] u b = refl
  cut_at fresh (c ∷ q) u b = cut_each fresh q (sort c) u b (λ g w k. cut_at g q w k)

  -- of a whole pattern
  pub filled-levels : (e q : List ℕ) → well_placed (levels q) ≡ true → levels (filled x e q) ≡ fill x (levels e) (levels q)
  filled-levels e q u = filled_at_lem true e q (placed-levels q ∙ u)

  pub cut-levels : (q : List ℕ) → well_placed (levels q) ≡ true → starts_with 35 q ≡ false → levels (cut x q) ≡ fill x [] (levels q)
  cut-levels q u b = cut_at true q (placed-levels q ∙ u) b

-- the bytes of a sample
pub sample-length : (x : ℕ) (q : List ℕ) → length (sample x q) ≤ length q + 2
unfolding sample
sample-length x [] = omega arith
sample-length x (c ∷ q) = by (eqb c 35) (λ e. rw (e, sample) (omega arith)) (λ e. rw (e, sample) (omega (arith, sample-length x q)))
