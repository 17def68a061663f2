-- `settings::told_lines::put_pattern` meets its contract: three writes, one after the other. Assumes nothing.
use Rattle.lines.proofs.put.WroteLaws.{wrote_then}
use Rattle.settings.specs.Told.{pattern_told}
use Rattle.settings.proofs.told_lines.ToldBounds.{pattern_short}
use Rattle.settings.proofs.told_lines.put_pattern.Goals as goal

pub returns : goal.returns
unfolding pattern_told
returns c = record { text = wrote_then (wrote_then c.put_bytes-after_key.ensures c.put_shown-after_text.ensures) c.put_hex_line.ensures; short = pattern_short _ }
