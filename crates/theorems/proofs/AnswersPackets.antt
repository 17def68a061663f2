-- One answer for every public function of `packets`, and nothing asked of its caller (specs/One.antt). Assumes nothing.
use mathlib.Core.Path.{sym, ◌∙◌}
use Rattle.packets.specs.contracts.packet.read_packet as packet-read_packet
use Rattle.packets.proofs.packet.read_packet.Reads as packet-read_packet-reads
use Rattle.packets.specs.contracts.messages.message_at as messages-message_at
use Rattle.packets.proofs.messages.message_at.Reads as messages-message_at-reads
use Rattle.packets.specs.contracts.refusal.PacketRefusal.number as refusal-PacketRefusal-number
use Rattle.packets.proofs.refusal.PacketRefusal.number.Reads as refusal-PacketRefusal-number-reads
use Rattle.packets.proofs.ToldLaws.{packet_once, message_once}
use Rattle.theorems.specs.One.{Any, One}

pub one-packet-read_packet : One packet-read_packet.ended packet-read_packet-reads.Post
one-packet-read_packet κs a x y e f p q = packet_once _ _ (p.0 ∙ sym q.0)

pub any-packet-read_packet : Any packet-read_packet.ended packet-read_packet-reads.Asked
any-packet-read_packet κs a = tt

pub one-messages-message_at : One messages-message_at.ended messages-message_at-reads.Post
one-messages-message_at κs a x y e f p q = message_once _ _ (p ∙ sym q)

pub any-messages-message_at : Any messages-message_at.ended messages-message_at-reads.Asked
any-messages-message_at κs a = tt

pub one-refusal-PacketRefusal-number : One refusal-PacketRefusal-number.ended refusal-PacketRefusal-number-reads.Post
one-refusal-PacketRefusal-number κs a x y e f p q = p ∙ sym q

pub any-refusal-PacketRefusal-number : Any refusal-PacketRefusal-number.ended refusal-PacketRefusal-number-reads.Asked
any-refusal-PacketRefusal-number κs a = tt
