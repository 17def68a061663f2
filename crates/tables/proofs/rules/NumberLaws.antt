-- The numbers of a QoS level, an action and a policy, there and back: each case is read back from its number, which is one of those that texts name. Requests C-13 and C-21 write and read rules by
-- them. Assumes nothing.
use mathlib.Core.Path.{◌≡◌, refl}
use Prim.Native.Nat.{◌≤◌}
use native.Mathlib.Omega.{arith}
use Rattle.tables.specs.Numbers.{qos_number, qos_at, action_number, action_at, policy_number, policy_at}
use Rattle.tables.specs.declared.rules.MqttQoS.{MqttQoS}
use Rattle.tables.specs.declared.rules.MqttQoS.TheVariants.{AtMostOnce, AtLeastOnce, ExactlyOnce}
use Rattle.tables.specs.declared.rules.QosPolicy.{QosPolicy}
use Rattle.tables.specs.declared.rules.QosPolicy.TheVariants.{Any, MinQoS, ExactQoS}
use Rattle.tables.specs.declared.rules.TopicAction.{TopicAction}
use Rattle.tables.specs.declared.rules.TopicAction.TheVariants.{Allow, Block}

pub qos_back : (q : MqttQoS) → (qos_at (qos_number q) ≡ q) × (qos_number q ≤ 2)
qos_back AtMostOnce = (refl, omega arith)
qos_back AtLeastOnce = (refl, omega arith)
qos_back ExactlyOnce = (refl, omega arith)

pub action_back : (a : TopicAction) → (action_at (action_number a) ≡ a) × (action_number a ≤ 1)
action_back Allow = (refl, omega arith)
action_back Block = (refl, omega arith)

pub policy_back : (p : QosPolicy) → (policy_at (policy_number p) ≡ p) × (policy_number p ≤ 6)
policy_back Any = (refl, omega arith)
policy_back (MinQoS AtMostOnce) = (refl, omega arith)
policy_back (MinQoS AtLeastOnce) = (refl, omega arith)
policy_back (MinQoS ExactlyOnce) = (refl, omega arith)
policy_back (ExactQoS AtMostOnce) = (refl, omega arith)
policy_back (ExactQoS AtLeastOnce) = (refl, omega arith)
policy_back (ExactQoS ExactlyOnce) = (refl, omega arith)
