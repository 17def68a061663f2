-- `lines::value::decimal` meets its contract. The invariant: `v` is the number that the bytes so far spell, all of them digits, and at most `high`. Assumes nothing.
use Prim.Native.Nat.{◌≤◌}
use Rattle.lines.proofs.value.DecimalLaws.{Reading}
use Rattle.lines.proofs.value.decimal.Given as goal

abbrev pub invariant-loop-c : goal.invariant-loop-c
invariant-loop-c l = (l.v ≤ l.high) × Reading l.l l.c-index l.v
