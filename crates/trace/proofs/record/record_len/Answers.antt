-- `trace::record::record_len` meets its contract, by the lengths of its three lines and of its alerts. Assumes nothing.
use Prim.Native.Nat.{◌+◌, ◌^◌, ◌≤◌, ◌<◌}
use mathlib.Core.Path.{◌≡◌}
use native.Mathlib.Omega.{arith}
use lib.ListN.{length}
use Rattle.trace.specs.Record.{record_text}
use Rattle.trace.proofs.record.RecordLaws.{record_sum}
use borrow.Author.Rules.{rules}
use Rattle.trace.proofs.record.record_len.Goals.{After-alerts_len-each}
use Rattle.trace.proofs.record.record_len.Goals as goal

counted : (c : After-alerts_len-each) → c.args.inspected.now.alert_count < 2 ^ 8
counted c = search rules

sum : (c : After-alerts_len-each) → let all = c.number_line_len-ordinal.result + c.flag_line_len-allowed.result + c.number_line_len-number.result + c.alerts_len-each.result in
    (all ≡ length (record_text c.args.n c.args.inspected.now)) × (all ≤ 528)
sum c =
    record_sum _ _ (search rules) (counted c) c.number_line_len-ordinal.ensures c.flag_line_len-allowed.ensures
    (rw c.from.ensures at c.number_line_len-number.ensures) (rw c.first_alerts.ensures.first at c.alerts_len-each.ensures)

pub overflow_add-result : goal.overflow_add-result
overflow_add-result c = omega (arith, sum c)

pub overflow_add-result-2 : goal.overflow_add-result-2
overflow_add-result-2 c = omega (arith, sum c)

pub overflow_add-result-3 : goal.overflow_add-result-3
overflow_add-result-3 c = omega (arith, sum c)

pub returns : goal.returns
returns c = sum c
