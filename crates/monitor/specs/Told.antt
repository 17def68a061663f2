-- What is claimed of an inspection's alerts and of the alert total (document 01, "Order inside one inspection"), under any matcher of the rules: of any state and any call
-- that is not refused, and of any run of calls. The proofs are in proofs/Denied.antt, Four.antt and Total.antt.
-- Assumes nothing.
use Rattle.std.specs.Prelude.{◌≡◌, Bool, not, List, ℕ, ◌≤◌, min, take}
use Rattle.laws.specs.Lists.{some}
use Rattle.monitor.specs.Alerts.{kinds_of, denies}
use Rattle.monitor.specs.Inspect.{inspect_refusal}
use Rattle.monitor.specs.Message.{used_topic, used_payload}
use Rattle.monitor.specs.Plan.{findings_in}
use Rattle.monitor.specs.Prepared.{Prepared}
use Rattle.monitor.specs.Runs.{Call, answer, after, alerts_in, kinds_told}
use Rattle.monitor.specs.declared.alerts.Findings.{Findings}
use Rattle.monitor.specs.declared.state.MqttMonitor.{MqttMonitor}

-- the call is not refused
abbrev pub Taken : MqttMonitor → Call → Type 0
Taken m c = inspect_refusal m c.msg c.topic c.payload ≡ 0

-- what was found of a call's message
abbrev pub found_of : (List ℕ → List ℕ → Bool) → MqttMonitor → Call → Findings
found_of matcher m c = findings_in matcher m c.msg (take (used_topic c.msg) c.topic) (take (used_payload c.msg) c.payload)

-- a message is denied exactly when kind 1, 2, 3, 5, 6, 9 or 10 was raised
abbrev pub DeniedByKind : Type 0
DeniedByKind =
    (matcher : List ℕ → List ℕ → Bool) (m : MqttMonitor) (c : Call) → Taken m c
    → (answer matcher m c).result.allowed ≡ not (some denies (kinds_told (answer matcher m c).result))

-- at most four alerts
abbrev pub AtMostFour : Type 0
AtMostFour = (matcher : List ℕ → List ℕ → Bool) (m : MqttMonitor) (c : Call) → (answer matcher m c).result.alert_count ≤ 4

-- and none is dropped: they tell of all that was found, in the order of one inspection
abbrev pub NoneDropped : Type 0
NoneDropped =
    (matcher : List ℕ → List ℕ → Bool) (m : MqttMonitor) (c : Call) → Taken m c
    → kinds_told (answer matcher m c).result ≡ kinds_of (found_of matcher m c)

-- the alert total is the sum of the alert counts since the monitor was made or last reset, capped at 2 ^ 64 - 1
abbrev pub TotalIsSum : Type 0
TotalIsSum =
    (matcher : List ℕ → List ℕ → Bool) (m : MqttMonitor) → Prepared m → (calls : List Call)
    → (after matcher m calls).total_alerts ≡ min (alerts_in matcher m calls) 18446744073709551615
