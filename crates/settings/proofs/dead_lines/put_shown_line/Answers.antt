-- `settings::dead_lines::put_shown_line` meets its contract: three writes, one after the other. Assumes nothing.
use Rattle.settings.proofs.dead_lines.DeadLaws.{shown_wrote}
use Rattle.settings.proofs.dead_lines.put_shown_line.Goals as goal

pub returns : goal.returns
returns c = let h = shown_wrote _ _ c.put_bytes-after_key.ensures c.put_shown-after_text.ensures c.put_bytes.ensures in record { text = h.0; short = h.1 }
