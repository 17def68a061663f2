-- What is claimed of one call (request C-12): its results, its records and the state afterwards are those of inspecting singly, by definition (Queue.antt). Which messages these are, and what cannot
-- happen to them, is said here.
-- Assumes nothing.
use Rattle.std.specs.Prelude.{Bool, true, false, ◌||◌, List, [], ◌++◌, ◌≡◌, ℕ, ◌+◌, ◌≤◌, ◌<◌, eqb, leb, length, drop}
use Rattle.laws.specs.Lists.{every}
use Rattle.monitor.specs.Runs.{Call, Reply, shipped, replies_by, is_inspected}
use Rattle.monitor.specs.State.{well_formed}
use Rattle.monitor.specs.declared.state.MqttMonitor.{MqttMonitor}
use Rattle.packets.specs.Packet.{packet_at}
use Rattle.queue.specs.Queue.{Wake, calls_in, records_of, queue_refusal, ends_at, ran_of, sent_of, queue_kept}

-- packets that are not refused stand one behind the other, from the first byte up to a place, and these are their messages, all of each, in their order
pub data Packets (w : Wake) : ℕ → List Call → Type 0 where
  none : Packets w 0 []
  next :
      {place : ℕ} {sent : List Call} → Packets w place sent → (packet_at w.bytes place).number ≡ 0
      → Packets w (place + (packet_at w.bytes place).length) (sent ++ calls_in w place)

-- a record of the reply can be written: at most four alerts, so that 10 does not refuse it
abbrev pub is_recorded : Reply → Bool
is_recorded r = leb r.given.result.alert_count 4

-- the numbers by which a run can end
abbrev pub is_end : ℕ → Bool
is_end n = eqb n 0 || eqb n 10 || eqb n 28 || eqb n 31 || eqb n 32 || eqb n 33

pub record Singly (m : MqttMonitor) (w : Wake) : Type 0 where
  -- the messages that were done are those of the packets before the place, all of each or none
  pub packets : Packets w (ran_of m w).place (sent_of m w)
  -- none of them is refused when it is inspected: neither 9 nor 10 occurs
  pub inspected : every is_inspected (replies_by shipped m (sent_of m w)) ≡ true
  -- nor is its record: 10 for an alert count does not occur
  pub recorded : every is_recorded (replies_by shipped m (sent_of m w)) ≡ true
  -- their records fit
  pub fits : length (records_of m (sent_of m w)) ≤ w.room
  -- and stand at the buffer's beginning; behind them stands what stood there
  pub behind : (d : List ℕ) → length d ≡ w.room → queue_kept m w d ≡ records_of m (sent_of m w) ++ drop (length (records_of m (sent_of m w))) d
  -- 10 comes before everything, and nothing is done then
  pub formless : well_formed m ≡ false → ran_of m w ≡ ends_at 10 0 []
  -- a run that is whole has come to the end of the bytes
  pub whole : (ran_of m w).number ≡ 0 → (ran_of m w).place ≡ length w.bytes
  -- any other ended at a packet that is refused, by what refuses it after the messages before it: 31, 32 or 33, and else 28
  pub ended :
      well_formed m ≡ true → ((ran_of m w).number ≡ 0 → ⊥)
      → ((ran_of m w).place < length w.bytes) × (queue_refusal m w (ran_of m w).place (sent_of m w) ≡ (ran_of m w).number)
  -- no other number occurs: not 9
  pub known : is_end (ran_of m w).number ≡ true

-- for every state and every call
abbrev pub AsSingly : Type 0
AsSingly = (m : MqttMonitor) (w : Wake) → Singly m w
