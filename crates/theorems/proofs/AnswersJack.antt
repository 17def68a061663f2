-- One answer for every public function of `jack`, and nothing asked of its caller (specs/One.antt). Assumes nothing.
use mathlib.Core.Path.{sym, ◌∙◌}
use Rattle.jack.specs.contracts.reading.hub_packet as reading-hub_packet
use Rattle.jack.proofs.reading.hub_packet.Reads as reading-hub_packet-reads
use Rattle.jack.specs.contracts.reading.hub_packet_lines as reading-hub_packet_lines
use Rattle.jack.proofs.reading.hub_packet_lines.Reads as reading-hub_packet_lines-reads
use Rattle.theorems.specs.One.{Any, One, OneLeft}

pub one-reading-hub_packet : One reading-hub_packet.ended reading-hub_packet-reads.Post
one-reading-hub_packet κs a x y e f p q = p ∙ sym q

pub any-reading-hub_packet : Any reading-hub_packet.ended reading-hub_packet-reads.Asked
any-reading-hub_packet κs a = tt

pub one-reading-hub_packet_lines : OneLeft reading-hub_packet_lines.ended reading-hub_packet_lines-reads.Post (λ κs e. e.1.1.1.1.0.now)
one-reading-hub_packet_lines κs a x y e f p q = (p.0 ∙ sym q.0, p.1 ∙ sym q.1)

pub any-reading-hub_packet_lines : Any reading-hub_packet_lines.ended reading-hub_packet_lines-reads.Asked
any-reading-hub_packet_lines κs a = tt
