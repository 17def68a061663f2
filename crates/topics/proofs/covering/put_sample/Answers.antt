use Rattle.std.proofs.Common.{arith}
use Rattle.topics.proofs.covering.WayLaws.{left_end, left_hash, left_on}
use Rattle.topics.proofs.covering.put_sample.Goals as goal

pub returns-then-c-eq35 : goal.returns-then-c-eq35
returns-then-c-eq35 c = let h = left_hash _ _ c.loop-i.invariant c.loop-i-test.true c.if-c-eq35.true in record { count = h.0; bytes = h.1 }

pub loop-i-preserved : goal.loop-i-preserved
loop-i-preserved c = left_on _ _ c.loop-i.invariant c.loop-i-test.true c.if-c-eq35.false c.sampled.ensures

pub returns : goal.returns
returns c = let h = left_end _ _ c.loop-i.invariant c.loop-i-test.false in record { count = omega (arith, h.0); bytes = h.1 }
