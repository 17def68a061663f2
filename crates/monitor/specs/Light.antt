-- Light messages: those that are neither a Publish nor a CONNECT. They ask no table. What `inspect` answers to one follows from the rules, the message and two counters, and of the state only the
-- counters change. So light messages that come one after the other can be measured without a copy of the state (request C-12).
-- Assumes nothing.
use Rattle.std.specs.Prelude.{◌≡◌, Bool, true, not, ◌||◌, List, ℕ, eqb}
use Rattle.monitor.specs.Alerts.{counted}
use Rattle.monitor.specs.Inspect.{applied}
use Rattle.monitor.specs.Message.{type_number}
use Rattle.monitor.specs.Plan.{not_connected, not_limited, not_fed, gate_in, plan_from, plan_of}
use Rattle.monitor.specs.State.{with_counters}
use Rattle.monitor.specs.declared.gate.Gate.{Gate}
use Rattle.monitor.specs.declared.message.MqttMessage.{MqttMessage}
use Rattle.monitor.specs.declared.plan.Plan.{Plan}
use Rattle.monitor.specs.declared.state.MqttMonitor.{MqttMonitor}

-- neither a CONNECT nor a Publish
abbrev pub is_light : MqttMessage → Bool
is_light msg = not (eqb (type_number msg.packet_type) 1 || eqb (type_number msg.packet_type) 3)

-- its plan from its gate, for the alert id to come and the alert total so far: no table is asked
unfoldable pub light_plan : ℕ → ℕ → MqttMessage → List ℕ → Gate → Plan
light_plan next total msg payload g = plan_from next total msg payload g not_connected not_limited not_fed

pub record Light : Type 0 where
  -- that is its plan in every state, under any matcher
  pub plan :
      (matcher : List ℕ → List ℕ → Bool) (m : MqttMonitor) (msg : MqttMessage) (topic payload : List ℕ) → is_light msg ≡ true
      → plan_of matcher m msg topic payload ≡ light_plan m.next_alert_id m.total_alerts msg payload (gate_in matcher m msg topic)
  -- and only the alert id to come and the two counts change
  pub kept :
      (matcher : List ℕ → List ℕ → Bool) (m : MqttMonitor) (msg : MqttMessage) (topic payload : List ℕ) → is_light msg ≡ true
      → applied m (plan_of matcher m msg topic payload)
      ≡ with_counters m (plan_of matcher m msg topic payload).raised.next_id (counted m.total_inspected) (plan_of matcher m msg topic payload).raised.total
