use Rattle.lines.proofs.put.WroteLaws.{wrote_more, wrote_cut}
use Rattle.lines.proofs.put.put_bytes.Goals as goal

pub loop-b-preserved : goal.loop-b-preserved
loop-b-preserved c = wrote_more _ _ c.loop-b.invariant c.loop-b-test.true c.put_byte-p.ensures

pub returns-then-out-p : goal.returns-then-out-p
returns-then-out-p c = wrote_cut _ _ c.loop-b.invariant c.if-out-p.true
