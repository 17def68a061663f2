-- `lines::put::put_bytes` meets its contract. The invariant: the bytes so far were written. Assumes nothing.
use lib.ListN.{take}
use Rattle.lines.specs.Wrote.{Wrote}
use Rattle.lines.proofs.put.put_bytes.Given as goal

abbrev pub invariant-loop-b : goal.invariant-loop-b
invariant-loop-b l = Wrote l.initial.out l.out l.at (take l.b-index l.s) l.p
