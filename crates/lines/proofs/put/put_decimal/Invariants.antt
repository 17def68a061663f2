-- `lines::put::put_decimal` meets its contract. The invariant: the digits of `rest`, followed by those set out after place `i`, are the digits of `n`; the measure: `rest`.
-- That `i` stays a place is had from the length of `n`'s digits, at most 20. Assumes nothing.
use Rattle.lines.proofs.put.DecimalLaws.{SetOut}
use Rattle.lines.proofs.put.put_decimal.Given as goal

abbrev pub invariant-loop-rest : goal.invariant-loop-rest
invariant-loop-rest l = SetOut l.digits l.n l.rest l.i

abbrev pub decreases-loop-rest : goal.decreases-loop-rest
decreases-loop-rest l = l.rest
