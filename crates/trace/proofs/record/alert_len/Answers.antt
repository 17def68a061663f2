-- `trace::record::alert_len` meets its contract, by the lengths of its four lines. Assumes nothing.
use Prim.Native.Nat.{◌+◌, ◌≤◌}
use mathlib.Core.Path.{◌≡◌}
use native.Mathlib.Omega.{arith}
use lib.ListN.{length}
use Rattle.trace.specs.Record.{alert_text}
use Rattle.trace.proofs.record.RecordLaws.{Typed, alert_sum}
use borrow.Author.Rules.{rules}
use Rattle.trace.proofs.record.alert_len.Goals.{After-hex_line_len-hash}
use Rattle.trace.proofs.record.alert_len.Goals as goal

typed : (c : After-hex_line_len-hash) → Typed c.args.alert.now
typed c = record { id64 = search rules; kind32 = search rules; hash32 = search rules }

sum : (c : After-hex_line_len-hash) → let all = c.number_line_len-id.result + c.number_line_len-kind.result + c.number_line_len-level.result + c.hex_line_len-hash.result in
    (all ≡ length (alert_text c.args.alert.now)) × (all ≤ 121)
sum c =
    alert_sum _ (typed c) c.number_line_len-id.ensures (rw c.from.ensures at c.number_line_len-kind.ensures) c.severity_number-number.ensures
    c.number_line_len-level.ensures c.hex_line_len-hash.ensures

pub overflow_add-result : goal.overflow_add-result
overflow_add-result c = omega (arith, sum c)

pub overflow_add-result-2 : goal.overflow_add-result-2
overflow_add-result-2 c = omega (arith, sum c)

pub overflow_add-result-3 : goal.overflow_add-result-3
overflow_add-result-3 c = omega (arith, sum c)

pub returns : goal.returns
returns c = sum c
