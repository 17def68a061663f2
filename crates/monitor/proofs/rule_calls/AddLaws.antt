-- What `add_rule` hands out in a state that passes number 10's test, which is what its plan says. Assumes nothing.
use mathlib.Core.Bool.{true}
use mathlib.Core.List.{List}
use mathlib.Core.Path.{◌≡◌, sym}
use Prim.Native.Nat.{ℕ}
use borrow.Author.Tests.{eq-eqb, ne_eqb, eqb-true}
use lib.Dec.{eqb}
use Rattle.laws.proofs.Cases.{by}
use Rattle.tables.specs.Rules.{rule_plan}
use Rattle.tables.specs.declared.rules.QosPolicy.{QosPolicy}
use Rattle.tables.specs.declared.rules.TopicAction.{TopicAction}
use Rattle.tables.specs.Rules.{RulePlan}
use Rattle.monitor.specs.Calls.{with_rule, add_rule}
use Rattle.monitor.specs.State.{well_formed, number_of}
use Rattle.monitor.specs.declared.state.MqttMonitor.{MqttMonitor}

module _ (m : MqttMonitor) (p : List ℕ) (action : TopicAction) (policy : QosPolicy) (rate : ℕ) {plan : RulePlan} (e : plan ≡ rule_plan m.rules m.rule_count p action policy rate) where
  module _ (formed : well_formed m ≡ true) where
    -- the number that refuses a rule is its plan's
    pub add_number : number_of (add_rule m p action policy rate).outcome ≡ plan.number
    unfolding add_rule
    add_number = rw (← e, formed) (by (eqb plan.number 0) (λ z. rw z (sym (eqb-true _ _ z))) (λ z. rw z))

    -- the rule is stored
    pub add_takes : plan.number ≡ 0 → (add_rule m p action policy rate).monitor ≡ with_rule m plan
    unfolding add_rule
    add_takes z = rw (← e, formed, eq-eqb _ _ z)

    -- nothing changes
    pub add_leaves : (plan.number ≡ 0 → ⊥) → (add_rule m p action policy rate).monitor ≡ m
    unfolding add_rule
    add_leaves z = rw (← e, formed, ne_eqb _ _ z)
