-- `inspect` (document 01, "Order inside one inspection" and "Numbers handed back"): its refusals, and the state with the plan applied.
-- Assumes nothing.
use Rattle.std.specs.Prelude.{Bool, false, cond, List, ℕ, eqb, ltb, length, take, set, replicate, Result, Ok, Err}
use Rattle.monitor.specs.Alerts.{counted, no_alert}
use Rattle.monitor.specs.Message.{used_topic, used_payload}
use Rattle.monitor.specs.Plan.{plan_of}
use Rattle.monitor.specs.Refusal.{refusal_number}
use Rattle.monitor.specs.State.{well_formed}
use Rattle.monitor.specs.declared.alerts.MqttInspectResult.{MqttInspectResult}
use Rattle.monitor.specs.declared.gate.Stage.TheVariants.{Early}
use Rattle.monitor.specs.Ended.{Inspected, Done, Refused}
use Rattle.monitor.specs.declared.inspection.Inspection.{Inspection}
use Rattle.monitor.specs.declared.message.MqttMessage.{MqttMessage}
use Rattle.monitor.specs.declared.plan.Plan.{Plan}
use Rattle.monitor.specs.declared.refusal.Refusal.{Refusal}
use Rattle.monitor.specs.declared.state.MqttMonitor.{MqttMonitor}

-- a record stored at a place of a table of n; nothing where the place is past its end
abbrev pub stored_at : {A : Type 0} → ℕ → List A → ℕ → A → List A
stored_at n l at x = cond (ltb at n) (set l at x) l

-- the state with a plan's records stored and the message counted
unfoldable pub applied : MqttMonitor → Plan → MqttMonitor
applied m p =
    record {
      rules = m.rules;
      rule_count = m.rule_count;
      rate_buckets = stored_at 32 m.rate_buckets p.spent.at p.spent.bucket;
      connect_windows = stored_at 16 m.connect_windows p.seen.at p.seen.entry;
      connect_storm_threshold = m.connect_storm_threshold;
      connect_storm_window_us = m.connect_storm_window_us;
      default_action = m.default_action;
      matching = m.matching;
      ewma_trackers = stored_at 16 m.ewma_trackers p.fed.at p.fed.tracker;
      next_alert_id = p.raised.next_id;
      total_inspected = counted m.total_inspected;
      total_alerts = p.raised.total;
    }

-- a plan's result
abbrev pub result_of : Plan → MqttInspectResult
result_of p = record { allowed = p.allowed; alert_count = p.raised.count; alerts = p.raised.alerts }

-- no result: the message was not inspected
abbrev pub no_result : MqttInspectResult
no_result = record { allowed = false; alert_count = 0; alerts = replicate 4 no_alert }

-- 10, then 9 for a lent topic or payload shorter than the part used; 0 is none
unfoldable pub inspect_refusal : MqttMonitor → MqttMessage → List ℕ → List ℕ → ℕ
inspect_refusal m msg topic payload =
    cond (well_formed m)
    (cond (ltb (length topic) (used_topic msg)) 9
    (cond (ltb (length payload) (used_payload msg)) 9
    0))
    10

-- a message inspected
abbrev pub done_with : MqttMonitor → Plan → Inspected
done_with m p = record { outcome = Done 0; stage = p.stage; result = result_of p; monitor = applied m p }

-- a message refused
abbrev pub refused_with : MqttMonitor → ℕ → Inspected
refused_with m number = record { outcome = Refused number; stage = Early; result = no_result; monitor = m }

-- what the call tells, beside the state that it leaves
abbrev pub inspected_as : Result Inspection Refusal → MqttMonitor → Inspected
inspected_as (Ok i) m = record { outcome = Done 0; stage = i.stage; result = i.result; monitor = m }
inspected_as (Err e) m = refused_with m (refusal_number e)

-- `inspect`, under a matcher of the rules
unfoldable pub inspect_with : (List ℕ → List ℕ → Bool) → MqttMonitor → MqttMessage → List ℕ → List ℕ → Inspected
inspect_with matcher m msg topic payload =
    cond (eqb (inspect_refusal m msg topic payload) 0)
    (done_with m (plan_of matcher m msg (take (used_topic msg) topic) (take (used_payload msg) payload)))
    (refused_with m (inspect_refusal m msg topic payload))
