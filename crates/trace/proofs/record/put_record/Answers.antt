-- `trace::record::put_record` meets its contract: three lines and the alerts, one after the other. Assumes nothing.
use Rattle.lines.proofs.put.WroteLaws.{wrote_then}
use Rattle.trace.specs.Record.{record_text}
use Rattle.trace.proofs.record.put_record.Goals as goal

pub returns : goal.returns
unfolding record_text
returns c =
    wrote_then (wrote_then (wrote_then c.put_number_line-after_n.ensures c.put_flag_line-after_allowed.ensures) (rw c.from.ensures at c.put_number_line-after_count.ensures))
    (rw c.first_alerts.ensures.first at c.put_alerts.ensures)
