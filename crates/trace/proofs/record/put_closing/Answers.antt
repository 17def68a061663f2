-- `trace::record::put_closing` meets its contract: four lines, one after the other. Assumes nothing.
use Rattle.lines.proofs.put.WroteLaws.{wrote_then}
use Rattle.trace.specs.Record.{closing_text}
use Rattle.trace.proofs.record.put_closing.Goals as goal

pub returns : goal.returns
unfolding closing_text
returns c =
    wrote_then
    (wrote_then (wrote_then (rw c.from.ensures at c.put_number_line-after_end.ensures) c.put_number_line-after_line.ensures) c.put_number_line-after_inspected.ensures)
    c.put_number_line.ensures
