-- `inspections::add_pattern` meets its contract: a rule that its plan takes, and one that it refuses. Assumes nothing.
use mathlib.Core.Path.{refl, sym}
use native.Mathlib.Omega.{arith}
use Rattle.tables.specs.declared.rules.MqttQoS.TheVariants.{AtLeastOnce}
use Rattle.tables.specs.declared.rules.QosPolicy.TheVariants.{MinQoS}
use Rattle.tables.specs.declared.rules.TopicAction.TheVariants.{Allow}
use Rattle.tables.proofs.rules.PlanLaws.{rule_real}
use Rattle.monitor.proofs.rule_calls.AddLaws.{add_takes, add_leaves}
use Rattle.loops.proofs.inspections.add_pattern.Goals as goal

pub returns-in-Ok : goal.returns-in-Ok
returns-in-Ok c = sym (add_takes c.args.m.now c.args.pattern.now Allow (MinQoS AtLeastOnce) 65535 c.in-Ok.ensures.plan c.requires refl)

pub returns-in_default : goal.returns-in_default
returns-in_default c =
    sym (add_leaves c.args.m.now c.args.pattern.now Allow (MinQoS AtLeastOnce) 65535 c.in_default.ensures.plan c.requires (λ z. omega (arith, z, rule_real c.in_default.field-0)))
