-- How much room is enough (request C-12): a message's record has at most 528 bytes. So a buffer with so much for each message never meets 28, nor does one with 264 bytes for each byte of the
-- packets. The premises are the types: the state's numbers are within theirs, and so is the length of the bytes.
-- Assumes nothing.
use Rattle.std.specs.Prelude.{◌≡◌, ◌+◌, ◌*◌, ◌^◌, ◌≤◌, ◌<◌, length}
use Rattle.monitor.specs.Ranged.{Ranged}
use Rattle.monitor.specs.declared.state.MqttMonitor.{MqttMonitor}
use Rattle.packets.specs.Packet.{packet_at}
use Rattle.queue.specs.Queue.{Wake, ran_of, sent_of}

pub record Enough : Type 0 where
  -- where 28 ends a run, the buffer has less than 528 bytes for each message, those of the packet at which it ended among them
  pub short :
      (m : MqttMonitor) (w : Wake) → Ranged m → length w.bytes < 2 ^ 64 → (ran_of m w).number ≡ 28
      → w.room < (length (sent_of m w) + (packet_at w.bytes (ran_of m w).place).messages) * 528
  -- so with 264 for each byte of the packets none ends by it
  pub ample : (m : MqttMonitor) (w : Wake) → Ranged m → length w.bytes < 2 ^ 64 → length w.bytes * 264 ≤ w.room → (ran_of m w).number ≡ 28 → ⊥
