-- Runs of a monitor in which other calls stand between the inspections (request C-24): those that change no rule and, but for `remove_rate_bucket`, no bucket. `validate_rules` and the
-- counters hand back no state, so a run in which they are asked is the run without them. A run of inspections alone is one of Runs.antt.
-- Assumes nothing.
use Rattle.std.specs.Prelude.{Bool, true, false, cond, ◌&&◌, List, [], ◌∷◌, map, ℕ, ◌+◌, eqb}
use Rattle.monitor.specs.Calls.{set_storm, remove_bucket, remove_tracker}
use Rattle.monitor.specs.Runs.{Call, Monitor}
use Rattle.monitor.specs.State.{number_of}
use Rattle.monitor.specs.Ended.{Called}
use Rattle.monitor.specs.declared.state.MqttMonitor.{MqttMonitor}

-- a call that is no inspection: `remove_rate_bucket` and `remove_ewma_tracker` of a topic, `set_connect_storm_params` with a threshold and a window
pub data Other : Type 0 where
  removes : List ℕ → Other
  forgets : List ℕ → Other
  storms : ℕ → ℕ → Other

-- a call of a run
pub data Act : Type 0 where
  inspects : Call → Act
  asks : Other → Act

-- whatever stands in the place of our calls: what it hands back for each
pub record Candidate : Type 0 where
  pub inspect : Monitor
  pub ask : MqttMonitor → Other → Called

-- what our other calls hand back
abbrev pub called : MqttMonitor → Other → Called
called m (removes topic) = remove_bucket m topic
called m (forgets topic) = remove_tracker m topic
called m (storms threshold window) = set_storm m threshold window

-- our other calls, beside whatever inspects
abbrev pub ours : Monitor → Candidate
ours f = record { inspect = f; ask = called }

-- the state after one call
abbrev pub after_act : Candidate → MqttMonitor → Act → MqttMonitor
after_act h m (inspects c) = (h.inspect m c).monitor
after_act h m (asks o) = (h.ask m o).monitor

-- the state after a run
unfoldable pub after_acts : Candidate → MqttMonitor → List Act → MqttMonitor
after_acts h m [] = m
after_acts h m (a ∷ acts) = after_acts h (after_act h m a) acts

-- a run of inspections alone
abbrev pub inspections : List Call → List Act
inspections = map inspects

-- the inspections of a run, in order
unfoldable pub messages : List Act → List Call
messages [] = []
messages (inspects c ∷ acts) = c ∷ messages acts
messages (asks o ∷ acts) = messages acts

-- it is a call of `remove_rate_bucket`
abbrev pub is_removal : Other → Bool
is_removal (removes topic) = true
is_removal (forgets topic) = false
is_removal (storms threshold window) = false

-- it removes a bucket: it is such a call, and is not refused
abbrev pub has_removed : Candidate → MqttMonitor → Other → Bool
has_removed h m o = is_removal o && eqb (number_of (h.ask m o).outcome) 0

-- how many of the other calls of a run are such, each on its state
unfoldable pub others_in : Candidate → (MqttMonitor → Other → Bool) → MqttMonitor → List Act → ℕ
others_in h such m [] = 0
others_in h such m (inspects c ∷ acts) = others_in h such (h.inspect m c).monitor acts
others_in h such m (asks o ∷ acts) = cond (such m o) 1 0 + others_in h such (h.ask m o).monitor acts

-- how many buckets are removed in a run
abbrev pub removals : Candidate → MqttMonitor → List Act → ℕ
removals h = others_in h (has_removed h)
