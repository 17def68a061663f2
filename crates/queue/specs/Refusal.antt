-- Why a run of packets ended, as the number that a person is told.
-- Assumes nothing.
use Rattle.std.specs.Prelude.{ℕ}
use Rattle.packets.specs.Refusal.{refusal_number}
use Rattle.queue.specs.declared.refusal.QueueRefusal.{QueueRefusal}
use Rattle.queue.specs.declared.refusal.QueueRefusal.TheVariants.{BadState, NoRoom, BadPacket}

-- the number of a refusal: request C-11's where the packet is refused for itself
abbrev pub queue_number : QueueRefusal → ℕ
queue_number BadState = 10
queue_number NoRoom = 28
queue_number (BadPacket e) = refusal_number e
