-- The ways through `rule_plan`: the pattern's own number, an equal pattern, a full table, a new rule; that a rule that is taken has a place; last, that a plan tells the whole answer. Assumes nothing.
use mathlib.Core.Bool.{Bool, true, false}
use mathlib.Core.List.{List}
use mathlib.Core.Path.{◌≡◌, refl, sym, ap, ◌∙◌}
use Prim.Native.Nat.{ℕ, ◌+◌, ◌≤◌, ◌<◌, min}
use native.Mathlib.Omega.{arith}
use borrow.Author.Tests.{lt-ltb, ltb-true, ltb-false, eq-eqb, eqb-true, eqb-false}
use lib.Dec.{eqb, ltb}
use lib.ListN.{get_or}
use Rattle.laws.proofs.Cases.{choose}
use Rattle.topics.specs.Patterns.{pattern_refusal}
use Rattle.tables.specs.Rules.{equal_rule, no_rule}
use Rattle.tables.specs.declared.rules.QosPolicy.{QosPolicy}
use Rattle.tables.specs.declared.rules.TopicAction.{TopicAction}
use Rattle.tables.specs.declared.rules.TopicRule.{TopicRule}
use Rattle.std.specs.Prelude.{Result, Ok, Err}
use Rattle.tables.specs.Rules.{rule_of, overwritten, is_held, not_taken, rule_plan, rule_number, told_plan}
use Rattle.tables.specs.declared.rules.Placement.{Placement}
use Rattle.tables.specs.declared.rules.RuleRefusal.{RuleRefusal}
use Rattle.tables.specs.declared.rules.RuleRefusal.TheVariants.{TableFull, BadPattern, NotUtf8}
use Rattle.tables.specs.Rules.{RulePlan}

module _ (rules : List TopicRule) (n : ℕ) (p : List ℕ) (action : TopicAction) (policy : QosPolicy) (rate : ℕ) where
  module _ {k : ℕ} (says : k ≡ pattern_refusal p) where
    module _ (ok : k ≡ 0) {at : ℕ} (found : at ≡ equal_rule p rules n) {held : Bool} (test : held ≡ ltb at (min n 32)) where
      right : eqb (pattern_refusal p) 0 ≡ true
      right = eq-eqb (pattern_refusal p) 0 (sym says ∙ ok)

      told : {b : Bool} → held ≡ b → is_held rules n p ≡ b
      told h = rw (← found) (sym test ∙ h)

      -- a new rule comes last
      pub plan_new : held ≡ false → n < 32
          → record { number = 0; at = n; rule = rule_of p action policy rate; count = n + 1 } ≡ rule_plan rules n p action policy rate
      unfolding rule_plan
      plan_new h room = rw (right, told h, lt-ltb n 32 room)

  -- what holds of each way's plan holds of the plan: whoever reasons about `rule_plan` goes by these four and never opens it
  pub plan_cases : (P : RulePlan → Type 0) → ((pattern_refusal p ≡ 0 → ⊥) → P (not_taken (pattern_refusal p) n))
      → (pattern_refusal p ≡ 0 → equal_rule p rules n < min n 32
      → P (record { number = 0; at = equal_rule p rules n; rule = overwritten (get_or rules (equal_rule p rules n) no_rule) action policy rate; count = n }))
      → (pattern_refusal p ≡ 0 → min n 32 ≤ equal_rule p rules n → n < 32 → P (record { number = 0; at = n; rule = rule_of p action policy rate; count = n + 1 }))
      → (pattern_refusal p ≡ 0 → 32 ≤ n → P (not_taken 6 n)) → P (rule_plan rules n p action policy rate)
  unfolding rule_plan
  plan_cases P own held new full =
      choose P (eqb (pattern_refusal p) 0)
      (λ e. let z = eqb-true _ _ e in
      choose P (is_held rules n p) (λ f. held z (ltb-true _ _ f))
      (λ f. choose P (ltb n 32) (λ g. new z (ltb-false _ _ f) (ltb-true _ _ g)) (λ g. full z (ltb-false _ _ g))))
      (λ e. own (eqb-false _ _ e))

  place : (rule_plan rules n p action policy rate).number ≡ 0 → (rule_plan rules n p action policy rate).at < 32
  place =
      plan_cases (λ d. d.number ≡ 0 → d.at < 32) (λ o z. absurd (o z)) (λ z h o. omega (arith, h)) (λ z f h o. h) (λ z h o. absurd (omega arith))

  -- a rule that is taken has a place
  pub plan_place : {plan : RulePlan} → plan ≡ rule_plan rules n p action policy rate → plan.number ≡ 0 → plan.at < 32
  plan_place e z = rw e (place (rw e at z))

-- an answer is told by its plan
rule_once : (e f : RuleRefusal) → rule_number e ≡ rule_number f → e ≡ f
rule_once TableFull TableFull p = refl
rule_once TableFull BadPattern p = absurd (omega (arith, p))
rule_once TableFull NotUtf8 p = absurd (omega (arith, p))
rule_once BadPattern TableFull p = absurd (omega (arith, p))
rule_once BadPattern BadPattern p = refl
rule_once BadPattern NotUtf8 p = absurd (omega (arith, p))
rule_once NotUtf8 TableFull p = absurd (omega (arith, p))
rule_once NotUtf8 BadPattern p = absurd (omega (arith, p))
rule_once NotUtf8 NotUtf8 p = refl

pub rule_real : (e : RuleRefusal) → 1 ≤ rule_number e
rule_real TableFull = omega arith
rule_real BadPattern = omega arith
rule_real NotUtf8 = omega arith

pub told_once : (n : ℕ) (r s : Result Placement RuleRefusal) → told_plan n r ≡ told_plan n s → r ≡ s
told_once n (Ok p) (Ok q) e =
    let at : p.at ≡ q.at = ap (λ (d : RulePlan). d.at) e in
    let rule : p.rule ≡ q.rule = ap (λ (d : RulePlan). d.rule) e in
    let count : p.count ≡ q.count = ap (λ (d : RulePlan). d.count) e in
    rw (at, rule, count)
told_once n (Ok p) (Err f) e = let k = ap (λ (d : RulePlan). d.number) e in absurd (omega (arith, k, rule_real f))
told_once n (Err d) (Ok q) e = let k = ap (λ (d : RulePlan). d.number) e in absurd (omega (arith, k, rule_real d))
told_once n (Err d) (Err f) e = ap Err (rule_once d f (ap (λ (d : RulePlan). d.number) e))
