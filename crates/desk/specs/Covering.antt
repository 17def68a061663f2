-- Two patterns at the support desk (request C-20): does the earlier one match every name that the later one matches, and by which name is it seen that it does not?
-- Assumes nothing.
use Rattle.std.specs.Prelude.{Bool, cond, List, ℕ, eqb, replicate}
use Rattle.topics.specs.Covering.{witness, covers, as_witness}
use Rattle.topics.specs.Patterns.{pattern_refusal}
use Rattle.desk.specs.declared.covering.PairWitness.{PairWitness}

-- the number that refuses two patterns, 0 for none: the earlier one's comes first
unfoldable pub pair_refusal : List ℕ → List ℕ → ℕ
pair_refusal earlier later = cond (eqb (pattern_refusal earlier) 0) (pattern_refusal later) (pattern_refusal earlier)

-- 1 yes, 0 no, or the number that refuses them
unfoldable pub pair_covers : Bool → List ℕ → List ℕ → ℕ
pair_covers standard earlier later =
    cond (eqb (pair_refusal earlier later) 0) (cond (covers standard standard earlier later) 1 0) (pair_refusal earlier later)

-- a name that only the later one matches; none where there is none, and where a number refuses them
unfoldable pub pair_witness : Bool → List ℕ → List ℕ → PairWitness
pair_witness standard earlier later =
    let w = as_witness (witness standard standard earlier later) in
    cond (eqb (pair_refusal earlier later) 0) (record { number = 0; length = w.len; name = w.name })
    (record { number = pair_refusal earlier later; length = 0; name = replicate 128 0 })
