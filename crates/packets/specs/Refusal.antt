-- Why bytes are no packet, as the numbers of request C-11.
-- Assumes nothing.
use Rattle.std.specs.Prelude.{ℕ}
use Rattle.packets.specs.declared.refusal.PacketRefusal.{PacketRefusal}
use Rattle.packets.specs.declared.refusal.PacketRefusal.TheVariants.{Incomplete, Malformed, TooLong}

-- the number of a refusal
abbrev pub refusal_number : PacketRefusal → ℕ
refusal_number Incomplete = 31
refusal_number Malformed = 32
refusal_number TooLong = 33
