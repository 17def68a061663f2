-- Demand 3 for a hub whose network task takes its messages in runs of packets (request C-12): call after call, each on the state that the one before it left. Such calls are a run of inspections, so
-- that what is claimed of runs holds of what they hand back. All messages of a call have its time. The proofs are in proofs/Queued.antt.
-- Assumes nothing.
use Rattle.std.specs.Prelude.{true, List, [], ◌∷◌, ◌++◌, ◌≡◌, ℕ, ◌≤◌, ◌<◌, length}
use Rattle.laws.specs.Lists.{every}
use Rattle.monitor.specs.Prepared.{Prepared}
use Rattle.monitor.specs.Runs.{Call, Reply, shipped, after_by, replies_by, is_inspected}
use Rattle.monitor.specs.State.{matcher_of}
use Rattle.monitor.specs.declared.state.MqttMonitor.{MqttMonitor}
use Rattle.queue.specs.Queue.{Wake, sent_of, queue_end}
use Rattle.theorems.specs.Printed.{topic_rate, TopicLimits}

-- the messages that calls do, one call after the other from a state on
unfoldable pub sent_by : MqttMonitor → List Wake → List Call
sent_by m [] = []
sent_by m (w ∷ ws) = sent_of m w ++ sent_by (queue_end m w).monitor ws

-- what they hand back for each
unfoldable pub told_by : MqttMonitor → List Wake → List Reply
told_by m [] = []
told_by m (w ∷ ws) = replies_by shipped m (sent_of m w) ++ told_by (queue_end m w).monitor ws

-- the state that they leave
unfoldable pub left_by : MqttMonitor → List Wake → MqttMonitor
left_by m [] = m
left_by m (w ∷ ws) = left_by (queue_end m w).monitor ws

-- the times of calls never go back
pub data InTurn : List Wake → Type 0 where
  nothing : InTurn []
  single : (w : Wake) → InTurn (w ∷ [])
  later : {v w : Wake} {ws : List Wake} → v.time ≤ w.time → InTurn (w ∷ ws) → InTurn (v ∷ w ∷ ws)

pub record Queued (m : MqttMonitor) (ws : List Wake) : Type 0 where
  -- they are a run of inspections of their messages
  pub told : told_by m ws ≡ replies_by shipped m (sent_by m ws)
  pub state : left_by m ws ≡ after_by shipped m (sent_by m ws)
  -- from a fresh monitor none is refused
  pub inspected : Prepared m → every is_inspected (told_by m ws) ≡ true
  -- and where times never go back, each topic that its rules limit is limited in what is handed back as demand 3 says
  pub limits :
      Prepared m → InTurn ws → (t : List ℕ) → length t ≤ 32 → 0 < topic_rate (matcher_of m) m t
      → TopicLimits (matcher_of m) m t (topic_rate (matcher_of m) m t) (told_by m ws)

-- of every monitor and all calls
abbrev pub QueuedLimits : Type 0
QueuedLimits = (m : MqttMonitor) (ws : List Wake) → Queued m ws
