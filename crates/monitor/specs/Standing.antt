-- Where the limit stands for a Publish of a topic: what `inspect` would do with it, at every time, if nothing else came before it. What the message says beside its topic does not count
-- (proofs/StandingExact.antt, `publish_gate`), so one Publish stands for all of them.
-- Assumes nothing.
use Rattle.std.specs.Prelude.{Bool, true, cond, List, ℕ, ltb, length, Result, Ok, Err}
use Rattle.tables.specs.Identity.{id_of}
use Rattle.tables.specs.Standing.{opens, prospect_in}
use Rattle.tables.specs.declared.buckets.RateDecision.{RateDecision}
use Rattle.tables.specs.declared.rules.MqttQoS.TheVariants.{AtMostOnce}
use Rattle.tables.specs.declared.standing.Opening.{Opening}
use Rattle.tables.specs.declared.standing.Opening.TheVariants.{Never, From}
use Rattle.tables.specs.declared.standing.Prospect.{Prospect}
use Rattle.monitor.specs.Plan.{spent_of, limiter_kind, gate_in}
use Rattle.monitor.specs.Refusal.{refusal_number}
use Rattle.monitor.specs.State.{well_formed, matcher_of}
use Rattle.monitor.specs.declared.gate.Gate.{Gate}
use Rattle.monitor.specs.declared.message.MqttMessage.{MqttMessage}
use Rattle.monitor.specs.declared.message.MqttPacketType.TheVariants.{Publish}
use Rattle.monitor.specs.declared.refusal.Refusal.{Refusal}
use Rattle.monitor.specs.declared.standing.Left.{Left as LeftHere}
use Rattle.monitor.specs.declared.standing.Outlook.{Outlook as OutlookHere}
use Rattle.monitor.specs.declared.state.MqttMonitor.{MqttMonitor}

-- refused by a number above 0; else a Publish is denied by `kind` before the opening and allowed from it on; `rate` above 0: the limiter counts it
pub record Outlook : Type 0 where
  pub number : ℕ
  pub kind : ℕ
  pub rate : ℕ
  pub opening : Opening

-- what a Publish at a time would leave: refused by a number above 0; else the kind that denies it, 0 where it passes, the rate, and the tokens left
pub record Left : Type 0 where
  pub number : ℕ
  pub kind : ℕ
  pub rate : ℕ
  pub tokens : ℕ

-- a Publish: of what it says only its type is asked
abbrev pub a_publish : MqttMessage
a_publish =
    record {
      packet_type = Publish;
      topic_len = 0;
      qos = AtMostOnce;
      payload_len = 0;
      payload_inspectable_len = 0;
      timestamp_us = 0;
      timestamp_ok = true;
    }

-- the same, from its four fields
abbrev pub stands_at : ℕ → ℕ → ℕ → Opening → Outlook
stands_at number kind rate opening = record { number = number; kind = kind; rate = rate; opening = opening }

-- by the limiter: a held identity is denied by 5 until then, a new one by 6
abbrev pub limited_by : ℕ → Prospect → Outlook
limited_by rate p = stands_at 0 (cond p.held 5 6) rate p.opening

-- by the gate: denied whatever the time; or by the limiter; or never denied
abbrev pub standing_by : Gate → MqttMonitor → List ℕ → Outlook
standing_by g m topic =
    cond (ltb 0 g.denial) (stands_at 0 g.denial 0 Never)
    (cond (ltb 0 g.rate) (limited_by g.rate (prospect_in m.rate_buckets (id_of topic))) (stands_at 0 0 0 (From 0)))

-- 10, then 9 for a topic over 128 bytes, else by the gate, under a matcher of the rules
unfoldable pub standing_with : (List ℕ → List ℕ → Bool) → MqttMonitor → List ℕ → Outlook
standing_with matcher m topic =
    cond (well_formed m) (cond (ltb 128 (length topic)) (stands_at 9 0 0 Never) (standing_by (gate_in matcher m a_publish topic) m topic)) (stands_at 10 0 0 Never)

-- under the monitor's own matcher, as the call `standing` has it
abbrev pub standing_in : MqttMonitor → List ℕ → Outlook
standing_in m topic = standing_with (matcher_of m) m topic

-- the kind that denies at a time, 0 where the message passes: the whole answer in one number
abbrev pub kind_at : Outlook → ℕ → ℕ
kind_at o t = cond (opens o.opening t) 0 o.kind

-- after a Publish at a time: the kind that denied it, 0 where it passed, the rate, and the tokens that its bucket is left with; both 0 where the limiter does not count it
abbrev pub leaves : ℕ → ℕ → ℕ → ℕ → Left
leaves number kind rate tokens = record { number = number; kind = kind; rate = rate; tokens = tokens }

-- by the gate, and by what the limiter would store
abbrev pub left_by : Gate → MqttMonitor → List ℕ → ℕ → Left
left_by g m topic t =
    let spent : RateDecision = spent_of m.rate_buckets g.rate (id_of topic) t in
    cond (ltb 0 g.denial) (leaves 0 g.denial 0 0) (leaves 0 (limiter_kind spent.result) g.rate spent.bucket.tokens)

-- 10, then 9 for a topic over 128 bytes, else by the gate, under the monitor's own matcher
unfoldable pub left_in : MqttMonitor → List ℕ → ℕ → Left
left_in m topic t =
    cond (well_formed m) (cond (ltb 128 (length topic)) (leaves 9 0 0 0) (left_by (gate_in (matcher_of m) m a_publish topic) m topic t)) (leaves 10 0 0 0)

-- what the two calls tell
abbrev pub told_outlook : Result OutlookHere Refusal → Outlook
told_outlook (Ok o) = stands_at 0 o.kind o.rate o.opening
told_outlook (Err e) = stands_at (refusal_number e) 0 0 Never

abbrev pub told_left : Result LeftHere Refusal → Left
told_left (Ok l) = leaves 0 l.kind l.rate l.tokens
told_left (Err e) = leaves (refusal_number e) 0 0 0
