-- `trace::standing_lines::put_name` meets its contract: four writes, one after the other. Assumes nothing.
use Rattle.lines.proofs.put.WroteLaws.{wrote_then}
use Rattle.trace.specs.Standing.{name_text}
use Rattle.trace.proofs.standing_lines.put_name.Goals as goal

pub returns : goal.returns
unfolding name_text
returns c =
    wrote_then
    (wrote_then (wrote_then c.put_hex_line-after_hex.ensures c.put_bytes-after_key.ensures) c.put_shown-end.ensures)
    c.put_byte.ensures
