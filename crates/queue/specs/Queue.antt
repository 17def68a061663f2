-- Request C-12: a run of packets in one call, with one time and one verdict for all. Packet after packet, each message of one is inspected on the state that the message before it left, and its record
-- is written behind the records before it. What a run is, is said by the messages that it did; records and state are those of inspecting these singly.
-- Assumes nothing.
use Rattle.std.specs.Prelude.{Bool, cond, List, [], ◌++◌, ℕ, zero, suc, ◌+◌, eqb, leb, length}
use Rattle.std.proofs.lemmas.List.Edits.{sets}
use Rattle.laws.specs.Refusals.{refusal}
use Rattle.monitor.specs.Runs.{Call, shipped, after_by, replies_by}
use Rattle.monitor.specs.State.{well_formed}
use Rattle.monitor.specs.declared.state.MqttMonitor.{MqttMonitor}
use Rattle.trace.specs.AsRun.{records_text}
use Rattle.packets.specs.Packet.{first_of, packet_at}
use Rattle.packets.specs.Taken.{calls_at}
use Rattle.queue.specs.Refusal.{queue_number}
use Rattle.queue.specs.declared.run.RunEnd.{RunEnd}

-- what a call brings beside the state: the packets' bytes, the time and the verdict of all messages, and how long its buffer is
pub record Wake : Type 0 where
  pub bytes : List ℕ
  pub time : ℕ
  pub ok : Bool
  pub room : ℕ

abbrev pub wake_of : List ℕ → ℕ → Bool → ℕ → Wake
wake_of bytes time ok room = record { bytes = bytes; time = time; ok = ok; room = room }

-- the messages of the packet at a place, as calls of `inspect`
abbrev pub calls_in : Wake → ℕ → List Call
calls_in w place = calls_at w.bytes place w.time w.ok

-- the records of messages that are inspected singly, one after the other from a state on, the first being the n-th
abbrev pub records_from : ℕ → MqttMonitor → List Call → List ℕ
records_from n m sent = records_text n (replies_by shipped m sent)

-- those of a call count from 1
abbrev pub records_of : MqttMonitor → List Call → List ℕ
records_of m sent = records_from 1 m sent

-- what refuses the packet at a place, after the messages before it: request C-11's number, then 28 where the records, its own among them, do not fit
unfoldable pub queue_refusal : MqttMonitor → Wake → ℕ → List Call → ℕ
queue_refusal m w place sent =
    first_of (packet_at w.bytes place).number
    (cond (leb (length (records_of m (sent ++ calls_in w place))) w.room) 0 28)

-- how a run ended: the number, 0 where it is whole; the place of the packet at which it ended, or the end of the bytes; and the messages that were done
pub record Ran : Type 0 where
  pub number : ℕ
  pub place : ℕ
  pub sent : List Call

abbrev pub ends_at : ℕ → ℕ → List Call → Ran
ends_at number place sent = record { number = number; place = place; sent = sent }

-- the run from a place on, after the messages before it; packets take two bytes at least, so there are fewer of them than bytes, which is the first number
unfoldable pub ran_from : ℕ → MqttMonitor → Wake → ℕ → List Call → Ran
ran_from zero m w place sent = ends_at 0 place sent
ran_from (suc k) m w place sent =
    cond (leb (length w.bytes) place) (ends_at 0 place sent)
    (cond (eqb (queue_refusal m w place sent) 0)
    (ran_from k m w (place + (packet_at w.bytes place).length) (sent ++ calls_in w place))
    (ends_at (queue_refusal m w place sent) place sent))

-- the whole run; 10 for a state that no call hands out comes before everything
unfoldable pub ran_of : MqttMonitor → Wake → Ran
ran_of m w = cond (well_formed m) (ran_from (length w.bytes + 1) m w 0 []) (ends_at 10 0 [])

-- the messages that were done
abbrev pub sent_of : MqttMonitor → Wake → List Call
sent_of m w = (ran_of m w).sent

-- how a call ends: the number that ended the run, 0 where it is whole; the place of the packet at which it ended, or the end of the bytes; how many messages were done, and how many bytes their
-- records are; and the state after them
pub record QueueEnd : Type 0 where
  pub number : ℕ
  pub place : ℕ
  pub done : ℕ
  pub length : ℕ
  pub monitor : MqttMonitor

-- what the code hands back, with the state that it leaves, so told
abbrev pub ended : RunEnd → MqttMonitor → QueueEnd
ended r m =
    record {
      number = refusal queue_number r.outcome;
      place = r.reached.place;
      done = r.reached.done;
      length = r.reached.length;
      monitor = m;
    }

-- a run that ended so: the state is the one that its messages leave
abbrev pub end_of : MqttMonitor → Ran → QueueEnd
end_of m r =
    record {
      number = r.number;
      place = r.place;
      done = length r.sent;
      length = length (records_of m r.sent);
      monitor = after_by shipped m r.sent;
    }

-- what the call hands back
abbrev pub queue_end : MqttMonitor → Wake → QueueEnd
queue_end m w = end_of m (ran_of m w)

-- the buffer afterwards: the records at its beginning, and all else as it was
abbrev pub queue_kept : MqttMonitor → Wake → List ℕ → List ℕ
queue_kept m w d = sets d 0 (records_of m (sent_of m w))
