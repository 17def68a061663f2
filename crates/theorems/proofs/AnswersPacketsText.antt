-- One answer for every public function of `packets_text`, and nothing asked of its caller (specs/One.antt). Assumes nothing.
use mathlib.Core.Path.{sym, ◌∙◌}
use Rattle.packets_text.specs.contracts.written.packet_lines as written-packet_lines
use Rattle.packets_text.proofs.written.packet_lines.Reads as written-packet_lines-reads
use Rattle.packets_text.specs.contracts.refusal.LinesRefusal.number as refusal-LinesRefusal-number
use Rattle.packets_text.proofs.refusal.LinesRefusal.number.Reads as refusal-LinesRefusal-number-reads
use Rattle.packets_text.proofs.RefusalLaws.{lines_once}
use Rattle.theorems.specs.One.{Any, One, OneLeft}

pub one-written-packet_lines : OneLeft written-packet_lines.ended written-packet_lines-reads.Post (λ κs e. e.1.1.1.1.0.now)
one-written-packet_lines κs a x y e f p q = (lines_once _ _ (p.0 ∙ sym q.0), p.1.0 ∙ sym q.1.0)

pub any-written-packet_lines : Any written-packet_lines.ended written-packet_lines-reads.Asked
any-written-packet_lines κs a = tt

pub one-refusal-LinesRefusal-number : One refusal-LinesRefusal-number.ended refusal-LinesRefusal-number-reads.Post
one-refusal-LinesRefusal-number κs a x y e f p q = p ∙ sym q

pub any-refusal-LinesRefusal-number : Any refusal-LinesRefusal-number.ended refusal-LinesRefusal-number-reads.Asked
any-refusal-LinesRefusal-number κs a = tt
