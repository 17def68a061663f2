-- `lines::value::put_unhex` meets its contract. The invariant: the first `i` bytes stand in the buffer, and storing those that are left gives what storing all of them gives. Assumes nothing.
use Rattle.lines.proofs.value.HexLaws.{Unhexed}
use Rattle.lines.proofs.value.put_unhex.Given as goal

abbrev pub invariant-loop-i : goal.invariant-loop-i
invariant-loop-i l = Unhexed l.initial.out l.l l.out l.i
