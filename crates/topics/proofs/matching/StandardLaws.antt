-- The standard matcher's three answers: outside its domain 9, inside it the byte matcher's answer, which is the standard's rule level by level.
-- Assumes nothing.
use Rattle.std.proofs.Common.{◌≡◌, ℕ, Bool, true, cond, eqb, List, [], ◌∷◌, length, refl, arith, eq-eqb, ne_eqb}
use mathlib.Core.Bool.{and-false}
use Rattle.topics.specs.Patterns.{pattern_refusal}
use Rattle.topics.specs.Matching.{matches_with, standard_rule, standard_matches}
use Rattle.topics.specs.declared.matching.StandardMatch.TheVariants.{Yes, No, OutsideDomain}
use Rattle.topics.proofs.matching.Meaning.{meaning}
use Rattle.topics.proofs.patterns.PatternLaws.{accepted_placed}

-- a pattern that `add_rule` refuses
pub outside_pattern : (n p : List ℕ) → (pattern_refusal p ≡ 0 → ⊥) → OutsideDomain ≡ standard_matches n p
unfolding standard_matches
outside_pattern n p r = rw (ne_eqb _ _ r)

-- a name without bytes
pub outside_name : (n p : List ℕ) → length n ≡ 0 → OutsideDomain ≡ standard_matches n p
unfolding standard_matches
outside_name [] p l = rw (and-false (eqb (pattern_refusal p) 0))
outside_name (x ∷ n) p l = absurd (omega arith)

-- what the byte matcher answers of an accepted pattern is the standard's rule
standard_bytes : (n p : List ℕ) → pattern_refusal p ≡ 0 → matches_with true true n p ≡ standard_rule n p
unfolding standard_rule
standard_bytes n p r = meaning true true n p (accepted_placed p r)

-- the domain
pub inside : (n p : List ℕ) {b : Bool} → pattern_refusal p ≡ 0 → (length n ≡ 0 → ⊥) → matches_with true true n p ≡ b → cond b Yes No ≡ standard_matches n p
unfolding standard_matches
inside [] p r l e = absurd (l refl)
inside (x ∷ n) p r l e = rw (eq-eqb _ _ r, ← standard_bytes (x ∷ n) p r, e)
