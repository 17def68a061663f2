-- What is handed to C of a packet and of its lines.
-- Assumes nothing.
use Rattle.packets.specs.Packet.{ToldPacket}
use Rattle.packets_text.specs.PacketText.{ToldLines}
use Rattle.jack.specs.declared.reading.PacketLines.{PacketLines}
use Rattle.jack.specs.declared.reading.PacketSize.{PacketSize}

-- of a packet all but the first step, which only `message_at` takes
abbrev pub sized_of : ToldPacket → PacketSize
sized_of p = record { number = p.number; length = p.length; messages = p.messages }

-- of its lines all
abbrev pub lines_of : ToldLines → PacketLines
lines_of t = record { number = t.number; line = t.line; length = t.length }
