-- One packet of a run: what it comes to where its records fit, and where it is refused. The run's own definition (Queue.antt) is of all packets.
-- Assumes nothing.
use Rattle.std.specs.Prelude.{Bool, cond, List, ◌≡◌, ℕ, ◌+◌, ◌-◌, ◌≤◌, ◌<◌, leb, length, Ok}
use Rattle.lines.specs.Wrote.{Wrote}
use Rattle.monitor.specs.Runs.{Call, shipped, after_by}
use Rattle.monitor.specs.declared.state.MqttMonitor.{MqttMonitor}
use Rattle.packets.specs.Packet.{first_of, packet_told, packet_at}
use Rattle.packets.specs.Taken.{calls_at}
use Rattle.packets.specs.declared.packet.Packet.{Packet}
use Rattle.queue.specs.Queue.{records_from}
use Rattle.queue.specs.Refusal.{queue_number}
use Rattle.queue.specs.declared.refusal.QueueRefusal.{QueueRefusal}
use Rattle.queue.specs.declared.run.Reached.{Reached}

-- the packet was read at a place of some bytes
abbrev pub IsRead : List ℕ → ℕ → Packet → Type 0
IsRead s place packet = packet_told (Ok packet) ≡ packet_at s place

module _ (m m' : MqttMonitor) (d d' : List ℕ) (at n : ℕ) (cs : List Call) where
  -- messages were inspected on a state, and their records, the first being the n-th, written from a place on
  pub record Written (end : ℕ) : Type 0 where
    pub fits : length (records_from n m cs) ≤ length d - at
    pub wrote : Wrote d d' at (records_from n m cs) end
    pub state : m' ≡ after_by shipped m cs

  -- they do not fit, and nothing was done
  pub record Unwritten (refusal : QueueRefusal) : Type 0 where
    pub number : queue_number refusal ≡ 28
    pub full : length d - at < length (records_from n m cs)
    pub state : m' ≡ m
    pub buffer : d' ≡ d

module _ (s : List ℕ) (time : ℕ) (ok : Bool) (m m' : MqttMonitor) (d d' : List ℕ) (from : Reached) where
  -- the packet at the place that a run has reached is done
  pub record Goes (to : Reached) : Type 0 where
    pub good : (packet_at s from.place).number ≡ 0
    pub written : Written m m' d d' from.length (from.done + 1) (calls_at s from.place time ok) to.length
    pub place : to.place ≡ from.place + (packet_at s from.place).length
    pub done : to.done ≡ from.done + (packet_at s from.place).messages

  -- it is refused, and nothing of it was done
  pub record Stops (refusal : QueueRefusal) : Type 0 where
    pub number :
        queue_number refusal
        ≡ first_of (packet_at s from.place).number
        (cond (leb (length (records_from (from.done + 1) m (calls_at s from.place time ok))) (length d - from.length)) 0 28)
    pub state : m' ≡ m
    pub buffer : d' ≡ d
