-- Why no lines of a packet are written, as a number: the packet's own, or 28.
-- Assumes nothing.
use Rattle.std.specs.Prelude.{ℕ}
use Rattle.packets.specs.Refusal.{refusal_number}
use Rattle.packets_text.specs.declared.refusal.LinesRefusal.{LinesRefusal}
use Rattle.packets_text.specs.declared.refusal.LinesRefusal.TheVariants.{Packet, NoRoom}

-- the number of a refusal
abbrev pub lines_number : LinesRefusal → ℕ
lines_number (Packet e) = refusal_number e
lines_number NoRoom = 28
