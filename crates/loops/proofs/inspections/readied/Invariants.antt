use Rattle.std.proofs.Common.{◌≡◌}
use Rattle.loops.specs.Inspections.{ruled}
use Rattle.loops.proofs.inspections.readied.Given as goal

abbrev pub invariant-loop-k : goal.invariant-loop-k
invariant-loop-k l = l.m ≡ ruled l.k
