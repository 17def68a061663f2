-- `trace::record::closing_len` meets its contract, by the lengths of its four lines. Assumes nothing.
use Prim.Native.Nat.{◌+◌, ◌≤◌}
use mathlib.Core.Path.{◌≡◌}
use native.Mathlib.Omega.{arith}
use lib.ListN.{length}
use Rattle.trace.specs.Record.{closing_text}
use Rattle.trace.proofs.record.RecordLaws.{closing_sum}
use Rattle.trace.proofs.record.closing_len.Goals.{After-number_line_len-alerts}
use Rattle.trace.proofs.record.closing_len.Goals as goal

sum : (c : After-number_line_len-alerts) → let all = c.number_line_len-end.result + c.number_line_len-last.result + c.number_line_len-messages.result + c.number_line_len-alerts.result in
    (all ≡ length (closing_text c.args.closing.now.number c.args.closing.now.line c.args.closing.now.inspected c.args.closing.now.total)) × (all ≤ 109)
sum c =
    closing_sum _ _ _ _ (omega arith) (omega arith) (omega arith) (omega arith) (rw c.from.ensures at c.number_line_len-end.ensures) c.number_line_len-last.ensures
    c.number_line_len-messages.ensures c.number_line_len-alerts.ensures

pub overflow_add-result : goal.overflow_add-result
overflow_add-result c = omega (arith, sum c)

pub overflow_add-result-2 : goal.overflow_add-result-2
overflow_add-result-2 c = omega (arith, sum c)

pub overflow_add-result-3 : goal.overflow_add-result-3
overflow_add-result-3 c = omega (arith, sum c)

pub returns : goal.returns
returns c = sum c
