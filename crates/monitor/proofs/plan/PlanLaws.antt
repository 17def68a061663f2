-- The plan from what its calls hand back: with a payload hash that is made only where it is wanted (`planned`), and whole, with an identity that is made only if
-- one of two tables is asked (`composed`). Assumes nothing.
use mathlib.Core.Bool.{Bool, cond, not, ◌||◌, or-true}
use mathlib.Core.List.{List}
use mathlib.Core.Path.{◌≡◌, ap, ◌∙◌}
use Prim.Native.Nat.{ℕ}
use lib.Dec.{eqb, ltb}
use lib.ListN.{replicate}
use Rattle.laws.proofs.Cases.{by}
use Rattle.topics.specs.Payload.{payload_hash}
use Rattle.tables.specs.Identity.{id_of}
use Rattle.tables.specs.declared.buckets.RateBucket.{RateBucket}
use Rattle.tables.specs.declared.buckets.RateDecision.{RateDecision}
use Rattle.tables.specs.declared.identity.Id.{Id}
use Rattle.tables.specs.declared.trackers.EwmaTracker.{EwmaTracker}
use Rattle.tables.specs.declared.trackers.TrackerDecision.{TrackerDecision}
use Rattle.tables.specs.declared.windows.ConnectDecision.{ConnectDecision}
use Rattle.monitor.specs.Alerts.{kinds_of, raise_all}
use Rattle.monitor.specs.Plan.{seen_of, id_for, spent_of, fed_of, denial_of, gate_in, plan_from, plan_of}
use Rattle.monitor.specs.declared.alerts.Raised.{Raised}
use Rattle.monitor.specs.declared.gate.Gate.{Gate}
use Rattle.monitor.specs.declared.message.MqttMessage.{MqttMessage}
use Rattle.monitor.specs.declared.plan.Plan.{Plan}
use Rattle.monitor.specs.declared.state.MqttMonitor.{MqttMonitor}
use Rattle.monitor.proofs.alerts.KindLaws.{raised_hash}

-- the plan, whose payload hash is made only where an alert carries it
pub planned : (msg : MqttMessage) (payload : List ℕ) (next total : ℕ) (g : Gate) (seen : ConnectDecision) (spent : RateDecision) (fed : TrackerDecision)
    → {denial : ℕ} → denial ≡ denial_of seen g spent
    → {wanted : Bool} → wanted ≡ (eqb denial 3 || eqb denial 7 || fed.alert)
    → {hash : List ℕ} → hash ≡ cond wanted (payload_hash payload) (replicate 32 0)
    → {raised : Raised}
    → raised
    ≡ raise_all hash msg.timestamp_us next total
    (kinds_of (record { clock = not msg.timestamp_ok; broad = g.broad; qos = g.qos; denial = denial; anomaly = fed.alert }))
    → record { stage = g.stage; seen = seen; spent = spent; fed = fed; allowed = eqb denial 0; raised = raised } ≡ plan_from next total msg payload g seen spent fed
unfolding plan_from
planned msg payload next total g seen spent fed {denial} d w h r =
    rw (← d, r, h, w)
    (ap (λ x. record { stage = g.stage; seen = seen; spent = spent; fed = fed; allowed = eqb denial 0; raised = x })
    (raised_hash _ (payload_hash payload) msg.timestamp_us next total))

-- limiter and tracker with the identity that was made for either
module _ (g : Gate) (topic : List ℕ) where
  spent_id : (buckets : List RateBucket) (t : ℕ) → spent_of buckets g.rate (id_for g topic) t ≡ spent_of buckets g.rate (id_of topic) t
  unfolding spent_of id_for
  spent_id buckets t = by (ltb 0 g.rate) (λ e. rw e) (λ e. rw e)

  fed_id : (trackers : List EwmaTracker) (size t : ℕ) → fed_of trackers g.feeds (id_for g topic) size t ≡ fed_of trackers g.feeds (id_of topic) size t
  unfolding fed_of id_for
  fed_id trackers size t = by g.feeds (λ e. rw (e, or-true (ltb 0 g.rate))) (λ e. rw e)

-- the plan from what each call on a part of the state handed back
pub composed : (matcher : List ℕ → List ℕ → Bool) (m : MqttMonitor) (msg : MqttMessage) (topic payload : List ℕ)
    {g : Gate} {seen : ConnectDecision} {id : Id} {spent : RateDecision} {fed : TrackerDecision} {plan : Plan}
    → g ≡ gate_in matcher m msg topic
    → seen ≡ seen_of m.connect_windows m.connect_storm_threshold m.connect_storm_window_us msg topic
    → id ≡ id_for g topic
    → spent ≡ spent_of m.rate_buckets g.rate id msg.timestamp_us
    → fed ≡ fed_of m.ewma_trackers g.feeds id msg.payload_len msg.timestamp_us
    → plan ≡ plan_from m.next_alert_id m.total_alerts msg payload g seen spent fed
    → plan ≡ plan_of matcher m msg topic payload
unfolding plan_of
composed matcher m msg topic payload {g} {seen} {id} {spent} {fed} gate connected made limited tracked planned =
    let s : spent ≡ spent_of m.rate_buckets g.rate (id_of topic) msg.timestamp_us =
    limited ∙ rw made (spent_id g topic m.rate_buckets msg.timestamp_us) in
    let f : fed ≡ fed_of m.ewma_trackers g.feeds (id_of topic) msg.payload_len msg.timestamp_us =
    tracked ∙ rw made (fed_id g topic m.ewma_trackers msg.payload_len msg.timestamp_us) in
    rw (← gate, ← connected, ← s, ← f) planned
