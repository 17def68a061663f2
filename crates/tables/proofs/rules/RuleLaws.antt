-- What is true of one rule that number 10's test passes, and of the first that takes a topic. Assumes nothing.
use mathlib.Core.Bool.{Bool, true, ◌&&◌}
use mathlib.Core.List.{List}
use mathlib.Core.Path.{◌≡◌, sym, ap}
use Prim.Native.Nat.{ℕ, ◌≤◌, min}
use native.Mathlib.Omega.{arith}
use borrow.Author.Tests.{leb-true, eqb-true}
use lib.Dec.{eqb, leb}
use lib.ListN.{length, take}
use Rattle.laws.specs.Lists.{every}
use Rattle.laws.proofs.Tests.{both}
use Rattle.laws.proofs.Lists.{take-min}
use Rattle.topics.specs.Matching.{matches_with, rule_with}
use Rattle.topics.specs.Patterns.{pattern_refusal}
use Rattle.topics.proofs.matching.Meaning.{meaning}
use Rattle.topics.proofs.patterns.PatternLaws.{accepted_placed}
use Rattle.tables.specs.declared.rules.TopicRule.{TopicRule}
use Rattle.tables.specs.Rules.{pattern_of, rule_fine, first_rule}
use Rattle.tables.proofs.ScanLaws.{find_same}

module _ (r : TopicRule) where
  -- the bytes that the code lends are the rule's pattern
  pub lent : {n : ℕ} → length r.pattern ≡ 64 → n ≡ min r.pattern_len 64 → take n r.pattern ≡ pattern_of r
  lent {n} h e =
      let m : n ≡ min r.pattern_len (length r.pattern) = omega arith in rw m (sym (take-min r.pattern_len r.pattern))

  -- a fine rule is live, its pattern fits, and `add_rule` takes it
  pub fine_says : rule_fine r ≡ true → (r.active ≡ true) × (r.pattern_len ≤ 64) × (pattern_refusal (pattern_of r) ≡ 0)
  unfolding rule_fine
  fine_says e =
      let h = both (r.active && leb r.pattern_len 64) (eqb (pattern_refusal (pattern_of r)) 0) e in
      let g = both r.active (leb r.pattern_len 64) h.0 in (g.0, leb-true _ _ g.1, eqb-true _ _ h.1)

-- a live rule whose pattern passes a test
abbrev pub passing : (List ℕ → Bool) → TopicRule → Bool
passing q r = r.active && q (pattern_of r)

-- of rules as `add_rule` leaves them the first that takes a topic is the first that does so level by level
pub first_levels : (f d : Bool) (t : List ℕ) (rules : List TopicRule) (n : ℕ) → every rule_fine (take n rules) ≡ true
    → first_rule (matches_with f d) t rules n ≡ first_rule (rule_with f d) t rules n
unfolding first_rule
first_levels f d t rules n w =
    find_same rule_fine (passing (matches_with f d t)) (passing (rule_with f d t))
    (λ r e. ap (λ (b : Bool). r.active && b) (meaning f d t (pattern_of r) (accepted_placed (pattern_of r) (fine_says r e).2))) (take n rules) w
