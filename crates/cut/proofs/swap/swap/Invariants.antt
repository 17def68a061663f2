-- `cut::swap::swap` meets its contract. The invariant: the bytes so far are swapped, the others are as they were. Assumes nothing.
use Rattle.std.proofs.Common.{◌≡◌, ◌++◌, map, take, drop}
use Rattle.cut.specs.Swap.{swapped}
use Rattle.cut.proofs.swap.swap.Given as goal

abbrev pub invariant-loop-b : goal.invariant-loop-b
invariant-loop-b l = l.b-items ≡ map (swapped l.old l.new) (take l.b-index l.initial.b-items) ++ drop l.b-index l.initial.b-items
