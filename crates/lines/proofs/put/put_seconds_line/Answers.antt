-- `lines::put::put_seconds_line` meets its contract: five writes, one after the other. Assumes nothing.
use Rattle.lines.specs.Line.{seconds_line}
use Rattle.lines.proofs.put.WroteLaws.{wrote_then}
use Rattle.lines.proofs.put.put_seconds_line.Goals as goal

pub returns : goal.returns
unfolding seconds_line
returns c =
    wrote_then
    (wrote_then
    (wrote_then (wrote_then c.put_bytes-value.ensures c.put_decimal-point.ensures) c.put_byte-parts.ensures)
    c.put_six_digits-end.ensures)
    c.put_end.ensures
