use native.Mathlib.Omega.{arith}
use Rattle.lines.proofs.put.DecimalLaws.{decimal_first, decimal_tenth, decimal_20}
use Rattle.lines.proofs.lengths.decimal_len.Goals as goal

pub overflow_add-k : goal.overflow_add-k
overflow_add-k c = omega (arith, decimal_20 c.args.n (omega arith))

pub loop-rest-preserved : goal.loop-rest-preserved
loop-rest-preserved c = omega (arith, decimal_tenth c.loop-rest.rest c.loop-rest-test.true)

pub returns : goal.returns
returns c = omega (arith, decimal_first c.loop-rest.rest c.loop-rest-test.false, decimal_20 c.args.n (omega arith))
