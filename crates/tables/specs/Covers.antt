-- Request C-20: which rules can never speak. For each rule of the table the first earlier one that matches every name that it matches, and for two rules a name that only the later one matches.
-- Assumes nothing.
use Rattle.std.specs.Prelude.{Bool, cond, List, [], ◌∷◌, ◌++◌, ℕ, ◌+◌, ◌-◌, ltb, length, take, replicate}
use Rattle.topics.specs.Covering.{witness, covers, as_witness}
use Rattle.topics.specs.Matching.{is_standard}
use Rattle.topics.specs.declared.covering.Witness.{Witness}
use Rattle.topics.specs.declared.matching.Matching.{Matching}
use Rattle.tables.specs.Rules.{pattern_of}
use Rattle.tables.specs.Scan.{find}
use Rattle.tables.specs.declared.rules.TopicRule.{TopicRule}

-- an earlier rule covers a later one, by the matcher that was chosen for the rules
unfoldable pub rule_covers : Matching → TopicRule → TopicRule → Bool
rule_covers matching later earlier = covers (is_standard matching) (is_standard matching) (pattern_of earlier) (pattern_of later)

-- a name that only the later rule matches
unfoldable pub rule_witness : Matching → TopicRule → TopicRule → Witness
rule_witness matching later earlier =
    as_witness (witness (is_standard matching) (is_standard matching) (pattern_of earlier) (pattern_of later))

-- the number of the first record that passes a test, counted from 1; 0 where none does
unfoldable pub first_number : {A : Type 0} → (A → Bool) → List A → ℕ
first_number p l = cond (ltb (find p l) (length l)) (find p l + 1) 0

-- for each of the rules after those `before` the number of the first one before it that covers it
unfoldable pub covers_after : Matching → List TopicRule → List TopicRule → List ℕ
covers_after matching before [] = []
covers_after matching before (r ∷ rs) =
    first_number (rule_covers matching r) before ∷ covers_after matching (before ++ (r ∷ [])) rs

-- the report on the first n rules of a table of 32, with 0 for the places after them
unfoldable pub cover_report : Matching → List TopicRule → ℕ → List ℕ
cover_report matching rules n = covers_after matching [] (take n rules) ++ replicate (32 - n) 0
