-- `trace::record::put_alert` meets its contract: four lines, one after the other. Assumes nothing.
use Rattle.lines.proofs.put.WroteLaws.{wrote_then}
use Rattle.trace.specs.Record.{alert_text}
use Rattle.trace.proofs.record.put_alert.Goals as goal

pub returns : goal.returns
unfolding alert_text
returns c =
    wrote_then
    (wrote_then (wrote_then c.put_number_line-after_id.ensures (rw c.from.ensures at c.put_number_line-after_kind.ensures))
    (rw c.severity_number-number.ensures at c.put_number_line-after_severity.ensures))
    c.put_hex_line.ensures
