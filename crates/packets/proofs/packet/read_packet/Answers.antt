-- `packets::packet::read_packet` meets its contract. Assumes nothing.
use Rattle.laws.proofs.Lists.{tail_whole}
use Rattle.packets.proofs.packet.AcceptedLaws.{packet_is}
use Rattle.packets.proofs.packet.PacketLaws.{packet_none}
use Rattle.packets.proofs.packet.read_packet.Goals as goal

pub returns-then-bytes-place : goal.returns-then-bytes-place
returns-then-bytes-place c = let h = packet_is _ _ (packet_none _ c.if-bytes-place.true) in record { value = h.0; within = h.1 }

pub returns : goal.returns
returns c =
    let h = packet_is _ c.args.place (rw (tail_whole c.args.bytes.now c.args.place) at c.packet_of.ensures) in
    record { value = h.0; within = h.1 }
