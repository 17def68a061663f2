-- `covering::put_sample` meets its contract. A place of the pattern is the same place of the buffer; the invariant is what is left to write (`Left`). Assumes nothing.
use Rattle.topics.proofs.covering.WayLaws.{Left}
use Rattle.topics.proofs.covering.put_sample.Given as goal

abbrev pub invariant-loop-i : goal.invariant-loop-i
invariant-loop-i l = Left l.letter l.pattern l.initial.out l.out l.i
