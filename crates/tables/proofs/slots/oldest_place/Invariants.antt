use Rattle.tables.proofs.ScanLaws.{LeastFrom}
use Rattle.tables.proofs.slots.oldest_place.Given as goal

abbrev pub invariant-loop-i : goal.invariant-loop-i
invariant-loop-i g l = LeastFrom g.T.Record.stamp l.slots l.at l.least l.i
