-- What each table decides on one message, and the message's alerts (document 01, "Order inside one inspection"): each decision is a function of the table's own
-- old value, of what the gate says and of the topic's identity. A table that is not asked gets the place past its end, where nothing is stored.
-- Assumes nothing.
use Rattle.std.specs.Prelude.{Bool, false, cond, not, ◌||◌, List, ℕ, eqb, ltb}
use Rattle.topics.specs.Hashes.{client_hashes}
use Rattle.topics.specs.Payload.{payload_hash}
use Rattle.tables.specs.Identity.{id_of, empty_id}
use Rattle.tables.specs.Buckets.{decide, empty_bucket}
use Rattle.tables.specs.Trackers.{feed, empty_tracker}
use Rattle.tables.specs.Windows.{connect, empty_window}
use Rattle.tables.specs.declared.buckets.RateBucket.{RateBucket}
use Rattle.tables.specs.declared.buckets.RateDecision.{RateDecision}
use Rattle.tables.specs.declared.buckets.RateCheckResult.{RateCheckResult}
use Rattle.tables.specs.declared.buckets.RateCheckResult.TheVariants.{Allowed, Limited, EvictedAndDenied}
use Rattle.tables.specs.declared.identity.Id.{Id}
use Rattle.tables.specs.declared.trackers.EwmaTracker.{EwmaTracker}
use Rattle.tables.specs.declared.trackers.TrackerDecision.{TrackerDecision}
use Rattle.tables.specs.declared.windows.ClientStormEntry.{ClientStormEntry}
use Rattle.tables.specs.declared.windows.ConnectDecision.{ConnectDecision}
use Rattle.monitor.specs.Alerts.{kinds_of, raise_all}
use Rattle.monitor.specs.Gate.{gate_of}
use Rattle.monitor.specs.Message.{type_number}
use Rattle.monitor.specs.declared.alerts.Findings.{Findings}
use Rattle.monitor.specs.declared.gate.Gate.{Gate}
use Rattle.monitor.specs.declared.message.MqttMessage.{MqttMessage}
use Rattle.monitor.specs.declared.plan.Plan.{Plan}
use Rattle.monitor.specs.declared.state.MqttMonitor.{MqttMonitor}

-- a table that is not asked: no window, no bucket, no tracker
abbrev pub not_connected : ConnectDecision
not_connected = record { at = 16; entry = empty_window; storm = false }

abbrev pub not_limited : RateDecision
not_limited = record { at = 32; bucket = empty_bucket; result = Allowed }

abbrev pub not_fed : TrackerDecision
not_fed = record { at = 16; tracker = empty_tracker; alert = false }

-- CONNECT: its window; other types ask none
unfoldable pub seen_of : List ClientStormEntry → ℕ → ℕ → MqttMessage → List ℕ → ConnectDecision
seen_of clients threshold window msg topic =
    cond (eqb (type_number msg.packet_type) 1) (connect clients (client_hashes topic) msg.timestamp_us threshold window) not_connected

-- the topic's identity where the gate asks the limiter or the tracker, none elsewhere
unfoldable pub id_for : Gate → List ℕ → Id
id_for g topic = cond (ltb 0 g.rate || g.feeds) (id_of topic) empty_id

-- the limiter, asked where the gate hands out a rate
unfoldable pub spent_of : List RateBucket → ℕ → Id → ℕ → RateDecision
spent_of buckets rate id t =
    cond (ltb 0 rate) (decide buckets id rate t) not_limited

-- the tracker, asked where the gate says that the message feeds it
unfoldable pub fed_of : List EwmaTracker → Bool → Id → ℕ → ℕ → TrackerDecision
fed_of trackers feeds id size t =
    cond feeds (feed trackers id size t) not_fed

-- the kind by which the limiter denies: 5 without a token, 6 where a bucket was replaced
abbrev pub limiter_kind : RateCheckResult → ℕ
limiter_kind Allowed = 0
limiter_kind Limited = 5
limiter_kind EvictedAndDenied = 6

-- the one kind that denies the message, 0 for none: a CONNECT storm, the gate, or the limiter
unfoldable pub denial_of : ConnectDecision → Gate → RateDecision → ℕ
denial_of seen g spent = cond seen.storm 1 (cond (ltb 0 g.denial) g.denial (limiter_kind spent.result))

-- what was found of a message
abbrev pub findings_of : MqttMessage → ConnectDecision → Gate → RateDecision → TrackerDecision → Findings
findings_of msg seen g spent fed =
    record { clock = not msg.timestamp_ok; broad = g.broad; qos = g.qos; denial = denial_of seen g spent; anomaly = fed.alert }

-- the plan from the gate and from what each table decided, for the alert id to come and the alert total so far
unfoldable pub plan_from : ℕ → ℕ → MqttMessage → List ℕ → Gate → ConnectDecision → RateDecision → TrackerDecision → Plan
plan_from next total msg payload g seen spent fed =
    record {
      stage = g.stage;
      seen = seen;
      spent = spent;
      fed = fed;
      allowed = eqb (denial_of seen g spent) 0;
      raised = raise_all (payload_hash payload) msg.timestamp_us next total (kinds_of (findings_of msg seen g spent fed));
    }

-- the gate of a message under a state's rules
abbrev pub gate_in : (List ℕ → List ℕ → Bool) → MqttMonitor → MqttMessage → List ℕ → Gate
gate_in matcher m msg topic = gate_of matcher m.rules m.rule_count m.default_action msg topic

-- the plan of a message with its used topic and payload; limiter and tracker are asked with the topic's identity
unfoldable pub plan_of : (List ℕ → List ℕ → Bool) → MqttMonitor → MqttMessage → List ℕ → List ℕ → Plan
plan_of matcher m msg topic payload =
    plan_from m.next_alert_id m.total_alerts msg payload (gate_in matcher m msg topic)
    (seen_of m.connect_windows m.connect_storm_threshold m.connect_storm_window_us msg topic)
    (spent_of m.rate_buckets (gate_in matcher m msg topic).rate (id_of topic) msg.timestamp_us)
    (fed_of m.ewma_trackers (gate_in matcher m msg topic).feeds (id_of topic) msg.payload_len msg.timestamp_us)

-- what was found of a message under a state: by its gate and by what each table of its plan decided
abbrev pub findings_in : (List ℕ → List ℕ → Bool) → MqttMonitor → MqttMessage → List ℕ → List ℕ → Findings
findings_in matcher m msg topic payload =
    findings_of msg (plan_of matcher m msg topic payload).seen (gate_in matcher m msg topic) (plan_of matcher m msg topic payload).spent
    (plan_of matcher m msg topic payload).fed
