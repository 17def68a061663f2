-- `trace::record::write_record` meets its contract: 10, then 28, each with the buffer as it was; else the record stands at its beginning. Assumes nothing.
use native.Mathlib.Omega.{arith}
use borrow.Author.Tests.{le-leb, lt-leb}
use mathlib.Core.Path.{◌≡◌}
use Rattle.trace.specs.Record.{record_refusal, record_written, record_kept}
use Rattle.trace.proofs.record.write_record.Goals as goal

pub returns-then-from-gt-ALERTS : goal.returns-then-from-gt-ALERTS
unfolding record_refusal record_written record_kept
returns-then-from-gt-ALERTS c = let e = lt-leb _ _ (rw c.from.ensures at c.if-from-gt-ALERTS.true) in record { answer = rw (e); buffer = rw (e) }

pub returns-then-out-record_len : goal.returns-then-out-record_len
unfolding record_refusal record_written record_kept
returns-then-out-record_len c = let e = le-leb _ _ (rw c.from.ensures at c.if-from-gt-ALERTS.false) in let g = lt-leb _ _ c.if-out-record_len.true in
    record { answer = rw (e, ← c.record_len.ensures.0, g); buffer = rw (e, ← c.record_len.ensures.0, g) }

pub returns : goal.returns
unfolding record_refusal record_written record_kept
returns c = let e = le-leb _ _ (rw c.from.ensures at c.if-from-gt-ALERTS.false) in let g = le-leb _ _ c.if-out-record_len.false in
    let n : c.put_record.result ≡ c.record_len.result = omega (arith, c.put_record.ensures.next, c.record_len.ensures.0, c.if-out-record_len.false) in
    record { answer = rw (n, e, ← c.record_len.ensures.0, g); buffer = rw (e, ← c.record_len.ensures.0, g) c.put_record.ensures.bytes }
