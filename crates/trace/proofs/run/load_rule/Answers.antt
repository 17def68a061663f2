use lib.Seq.{length-take-le}
use mathlib.Core.Path.{◌≡◌, refl, sym}
use Prim.Native.Nat.{◌-◌, ◌/◌, ◌≤◌}
use native.Mathlib.Omega.{arith}
use lib.ListN.{length, take}
use Rattle.tables.proofs.rules.PlanLaws.{rule_real}
use Rattle.rules_text.specs.RuleGroup.{pattern_in}
use Rattle.rules_text.proofs.read.RuleLaws.{pattern_part}
use Rattle.trace.proofs.run.LoadLaws.{rule_stop, rule_refused, rule_taken}
use Rattle.trace.proofs.run.load_rule.Goals.{Else-rule-ne0}
use Rattle.trace.proofs.run.load_rule.Goals as goal

-- the rule's pattern is the first bytes of its buffer
pattern_has : (c : Else-rule-ne0) → let r = c.read_rule-rule.result in let buffer = c.read_rule-rule.new.pattern in let long = (r.pattern_to - r.pattern_from) / 2 in
    (take long buffer ≡ pattern_in c.args.text.now r) × (long ≤ length buffer) × (length buffer ≡ 128)
pattern_has c = pattern_part _ _ _ c.read_rule-rule.ensures.value c.if-rule-ne0.false c.buffer_128-pattern.ensures c.read_rule-rule.ensures.kept refl

pub returns-then-rule-ne0 : goal.returns-then-rule-ne0
returns-then-rule-ne0 c = rw (c.from.ensures, ← c.read_rule-rule.ensures.value) (rule_stop _ _ _ _ c.if-rule-ne0.true)

pub overflow_sub-n : goal.overflow_sub-n
overflow_sub-n c = omega (arith, c.read_rule-rule.ensures.within.ordered)

pub slice_bounds-pattern-end : goal.slice_bounds-pattern-end
slice_bounds-pattern-end c = (pattern_has (goal.at.slice_bounds-pattern-end c).Else-rule-ne0).1

pub slice_bounds-plan_rule-end : goal.slice_bounds-plan_rule-end
slice_bounds-plan_rule-end c = sym (length-take-le _ _ (pattern_has (goal.at.slice_bounds-plan_rule-end c).Else-rule-ne0).1)

pub invariant_of-result-in-Err : goal.invariant_of-result-in-Err
invariant_of-result-in-Err c = record { refused = rw (← c.number.ensures) at (rule_real c.in-Err.refusal) }

pub offset_bounds-m-placement : goal.offset_bounds-m-placement
offset_bounds-m-placement c = omega (arith, c.in-Ok.ensures.within)

pub returns-in-Err : goal.returns-in-Err
returns-in-Err c =
    let refused = rule_refused c.args.m.now c.args.text.now c.args.start.line c.read_rule-rule.result c.requires.formed c.if-rule-ne0.false
    (pattern_has (goal.at.returns-in-Err c).Else-rule-ne0).0 c.in-Err.ensures.plan
    (λ z. omega (arith, z, rule_real c.in-Err.refusal)) in
    rw (← c.read_rule-rule.ensures.value) (rw (← c.number.ensures) at refused)

pub returns-in-Ok : goal.returns-in-Ok
returns-in-Ok c =
    rw (← c.read_rule-rule.ensures.value)
    (rule_taken _ _ _ _ c.requires.formed c.if-rule-ne0.false (pattern_has (goal.at.returns-in-Ok c).Else-rule-ne0).0 c.in-Ok.ensures.plan refl)
