-- `inspections::readied` meets its contract. Assumes nothing.
use mathlib.Core.Path.{◌≡◌}
use native.Mathlib.Omega.{arith}
use Rattle.loops.proofs.inspections.LoopLaws.{ruled_formed, ruled_turn}
use Rattle.loops.proofs.inspections.readied.Goals as goal

pub add_pattern-requires : goal.add_pattern-requires
add_pattern-requires c = ruled_formed c.loop-k.k c.loop-k.invariant

pub loop-k-preserved : goal.loop-k-preserved
loop-k-preserved c = ruled_turn c.loop-k.k c.pattern_at.ensures (rw c.loop-k.invariant at c.add_pattern.ensures)

pub add_pattern-requires-2 : goal.add_pattern-requires-2
add_pattern-requires-2 c = ruled_formed c.loop-k.k c.loop-k.invariant

pub returns : goal.returns
returns c =
    let all : c.loop-k.k ≡ c.args.others = omega (arith, c.loop-k.auto.k-end, c.loop-k-test.false) in
    rw (c.loop-k.invariant, all) at c.add_pattern-2.ensures
