-- The numbers and places by which texts and packets name a QoS level, an action and a policy (document 01, "The trace"), and the way back. A number past the last is read as the last.
-- Assumes nothing.
use Rattle.std.specs.Prelude.{cond, ℕ, ◌+◌, eqb}
use Rattle.tables.specs.declared.rules.MqttQoS.{MqttQoS}
use Rattle.tables.specs.declared.rules.MqttQoS.TheVariants.{AtMostOnce, AtLeastOnce, ExactlyOnce}
use Rattle.tables.specs.declared.rules.QosPolicy.{QosPolicy}
use Rattle.tables.specs.declared.rules.QosPolicy.TheVariants.{Any, MinQoS, ExactQoS}
use Rattle.tables.specs.declared.rules.TopicAction.{TopicAction}
use Rattle.tables.specs.declared.rules.TopicAction.TheVariants.{Allow, Block}

-- the three QoS levels as numbers
abbrev pub qos_number : MqttQoS → ℕ
qos_number AtMostOnce = 0
qos_number AtLeastOnce = 1
qos_number ExactlyOnce = 2

-- the QoS level of a number
abbrev pub qos_at : ℕ → MqttQoS
qos_at k = cond (eqb k 0) AtMostOnce (cond (eqb k 1) AtLeastOnce ExactlyOnce)

-- an action's place in `allow|block`
abbrev pub action_number : TopicAction → ℕ
action_number Allow = 0
action_number Block = 1

-- the action at its place
abbrev pub action_at : ℕ → TopicAction
action_at k = cond (eqb k 0) Allow Block

-- a policy's place in `any|min0|min1|min2|only0|only1|only2`
abbrev pub policy_number : QosPolicy → ℕ
policy_number Any = 0
policy_number (MinQoS least) = 1 + qos_number least
policy_number (ExactQoS exact) = 4 + qos_number exact

-- the policy at its place
abbrev pub policy_at : ℕ → QosPolicy
policy_at k =
    cond (eqb k 0) Any
    (cond (eqb k 1) (MinQoS AtMostOnce)
    (cond (eqb k 2) (MinQoS AtLeastOnce)
    (cond (eqb k 3) (MinQoS ExactlyOnce)
    (cond (eqb k 4) (ExactQoS AtMostOnce)
    (cond (eqb k 5) (ExactQoS AtLeastOnce)
    (ExactQoS ExactlyOnce))))))
