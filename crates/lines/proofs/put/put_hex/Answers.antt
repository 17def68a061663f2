use Rattle.lines.specs.Hex.{hex_text}
use Rattle.lines.proofs.put.HexLaws.{hex_more}
use Rattle.lines.proofs.put.WroteLaws.{wrote_none, wrote_then}
use Rattle.lines.proofs.put.put_hex.Goals as goal

pub loop-b-init : goal.loop-b-init
unfolding hex_text
loop-b-init c = wrote_none _ _

pub loop-b-preserved : goal.loop-b-preserved
loop-b-preserved c = rw (hex_more _ _ c.loop-b-test.true) (wrote_then c.loop-b.invariant c.put_pair-p.ensures)
