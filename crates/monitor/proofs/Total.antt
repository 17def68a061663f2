-- Document 01, "Order inside one inspection": the alert total equals the sum of alert counts since the last reset, capped at 2 ^ 64 - 1. First one inspection,
-- refused or not, then any number of them. Under any matcher. Assumes nothing.
use mathlib.Core.Bool.{Bool}
use mathlib.Core.List.{List, [], ◌∷◌}
use mathlib.Core.Path.{◌≡◌}
use Prim.Native.Nat.{ℕ, ◌+◌, ◌≤◌, min}
use native.Mathlib.Omega.{arith}
use lib.Dec.{eqb}
use lib.ListN.{take}
use Rattle.laws.proofs.Cases.{by}
use Rattle.topics.specs.Payload.{payload_hash}
use Rattle.monitor.specs.Alerts.{kinds_of}
use Rattle.monitor.specs.Inspect.{applied, inspect_refusal, inspect_with}
use Rattle.monitor.specs.Message.{used_topic, used_payload}
use Rattle.monitor.specs.Plan.{plan_from, plan_of, findings_in}
use Rattle.monitor.specs.Runs.{Call, answer, after_by, after, alerts_in}
use Rattle.monitor.specs.Told.{TotalIsSum}
use Rattle.monitor.specs.declared.message.MqttMessage.{MqttMessage}
use Rattle.monitor.specs.declared.state.MqttMonitor.{MqttMonitor}
use Rattle.monitor.proofs.alerts.AlertLaws.{raised_total}
use Rattle.monitor.proofs.Four.{at_most_four, all_counted}
use Rattle.monitor.proofs.Prepared.{no_alerts}

-- a plan
plan_total : (matcher : List ℕ → List ℕ → Bool) (m : MqttMonitor) (msg : MqttMessage) (topic payload : List ℕ)
    → m.total_alerts ≤ 18446744073709551615
    → (plan_of matcher m msg topic payload).raised.total
    ≡ min (m.total_alerts + (plan_of matcher m msg topic payload).raised.count) 18446744073709551615
unfolding plan_of plan_from
plan_total matcher m msg topic payload fits =
    rw (all_counted matcher m msg topic payload)
    (raised_total (payload_hash payload) msg.timestamp_us m.next_alert_id m.total_alerts (kinds_of (findings_in matcher m msg topic payload))
    (at_most_four matcher m msg topic payload) fits)

-- an inspection
total_after : (matcher : List ℕ → List ℕ → Bool) (m : MqttMonitor) (msg : MqttMessage) (topic payload : List ℕ)
    → m.total_alerts ≤ 18446744073709551615
    → (inspect_with matcher m msg topic payload).monitor.total_alerts
    ≡ min (m.total_alerts + (inspect_with matcher m msg topic payload).result.alert_count) 18446744073709551615
unfolding inspect_with applied
total_after matcher m msg topic payload fits =
    by (eqb (inspect_refusal m msg topic payload) 0)
    (λ e. rw e (plan_total matcher m msg (take (used_topic msg) topic) (take (used_payload msg) payload) fits))
    (λ e. rw e (omega arith))

-- a run
total_over : (matcher : List ℕ → List ℕ → Bool) (m : MqttMonitor) (calls : List Call) → m.total_alerts ≤ 18446744073709551615
    → (after matcher m calls).total_alerts ≡ min (m.total_alerts + alerts_in matcher m calls) 18446744073709551615
unfolding after_by alerts_in
total_over matcher m [] fits = omega arith
total_over matcher m (c ∷ cs) fits =
    let step = total_after matcher m c.msg c.topic c.payload fits in
    let rest = total_over matcher (answer matcher m c).monitor cs (omega arith) in omega arith

-- a run from a fresh monitor
pub total_is_sum : TotalIsSum
total_is_sum matcher m p calls =
    let zero = no_alerts p in
    let e = total_over matcher m calls (omega arith) in
    omega arith
