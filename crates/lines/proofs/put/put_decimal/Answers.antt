use native.Mathlib.Omega.{arith}
use Rattle.lines.proofs.put.DecimalLaws.{digits_left, digits_again, digits_done}
use Rattle.lines.proofs.put.put_decimal.Goals as goal

pub overflow_sub-i : goal.overflow_sub-i
overflow_sub-i c = digits_left c.loop-rest.invariant (omega arith) c.loop-rest-test.true

pub loop-rest-preserved : goal.loop-rest-preserved
loop-rest-preserved c = digits_again c.loop-rest.invariant (omega arith) c.loop-rest-test.true

pub returns : goal.returns
returns c =
    rw (digits_done c.loop-rest.invariant c.loop-rest-test.false) at c.put_bytes.ensures
