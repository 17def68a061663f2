-- Runs of a monitor: inspections one after the other, each on the state that the one before it left. What is claimed of many messages is said of them; a trace, a loop
-- and later a queue are such runs. Runs in which other calls stand too are in Acts.antt.
-- Assumes nothing.
use Rattle.std.specs.Prelude.{◌≡◌, Bool, List, [], ◌∷◌, ℕ, ◌+◌, eqb, length}
use Rattle.monitor.specs.Alerts.{kinds_among}
use Rattle.monitor.specs.Inspect.{inspect_with}
use Rattle.monitor.specs.Message.{used_topic, used_payload}
use Rattle.monitor.specs.State.{matcher_of, number_of}
use Rattle.monitor.specs.declared.alerts.MqttInspectResult.{MqttInspectResult}
use Rattle.monitor.specs.Ended.{Inspected}
use Rattle.monitor.specs.declared.message.MqttMessage.{MqttMessage}
use Rattle.monitor.specs.declared.state.MqttMonitor.{MqttMonitor}

-- an inspection: the message and the two lent buffers
pub record Call : Type 0 where
  pub msg : MqttMessage
  pub topic : List ℕ
  pub payload : List ℕ

-- a call whose buffers are exactly the parts that its message uses
abbrev pub Exact : Call → Type 0
Exact c = (length c.topic ≡ used_topic c.msg) × (length c.payload ≡ used_payload c.msg)

-- whatever inspects: what it hands back on a state and a call
abbrev pub Monitor : Type 0
Monitor = MqttMonitor → Call → Inspected

-- what a call hands back under a matcher of the rules
abbrev pub answer : (List ℕ → List ℕ → Bool) → Monitor
answer matcher m c = inspect_with matcher m c.msg c.topic c.payload

-- what the shipped `inspect` hands back: it takes the matcher that its state chose
abbrev pub shipped : Monitor
shipped m c = answer (matcher_of m) m c

-- the state after a run of calls
unfoldable pub after_by : Monitor → MqttMonitor → List Call → MqttMonitor
after_by f m [] = m
after_by f m (c ∷ cs) = after_by f (f m c).monitor cs

-- under a matcher
abbrev pub after : (List ℕ → List ℕ → Bool) → MqttMonitor → List Call → MqttMonitor
after matcher = after_by (answer matcher)

-- a call of a run and what was handed back for it: how it ended, its stage, its verdict and alerts, the next state
pub record Reply : Type 0 where
  pub call : Call
  pub given : Inspected

-- the replies of a run, call by call
unfoldable pub replies_by : Monitor → MqttMonitor → List Call → List Reply
replies_by f m [] = []
replies_by f m (c ∷ cs) = record { call = c; given = f m c } ∷ replies_by f (f m c).monitor cs

-- under a matcher
abbrev pub replies : (List ℕ → List ℕ → Bool) → MqttMonitor → List Call → List Reply
replies matcher = replies_by (answer matcher)

-- its message was inspected, and not refused
abbrev pub is_inspected : Reply → Bool
is_inspected r = eqb (number_of r.given.outcome) 0

-- its verdict
abbrev pub is_passed : Reply → Bool
is_passed r = r.given.result.allowed

-- the kinds of the alerts that a result tells of, in order
abbrev pub kinds_told : MqttInspectResult → List ℕ
kinds_told r = kinds_among r.alert_count r.alerts

-- how many alerts the calls of a run hand back in all
unfoldable pub alerts_in : (List ℕ → List ℕ → Bool) → MqttMonitor → List Call → ℕ
alerts_in matcher m [] = 0
alerts_in matcher m (c ∷ cs) = (answer matcher m c).result.alert_count + alerts_in matcher (answer matcher m c).monitor cs
