-- `settings::told_lines::put_connect` meets its contract: three writes, one after the other. Assumes nothing.
use borrow.Author.Rules.{rules}
use Rattle.lines.proofs.put.WroteLaws.{wrote_then}
use Rattle.settings.specs.Told.{connect_told}
use Rattle.settings.proofs.told_lines.ToldBounds.{connect_short}
use Rattle.settings.proofs.told_lines.put_connect.Goals as goal

pub returns : goal.returns
unfolding connect_told
returns c = record {
  text = wrote_then (wrote_then c.put_bytes-after_words.ensures (rw c.from.ensures at c.put_decimal-after_count.ensures)) c.put_seconds_line.ensures;
  short = connect_short c.args.threshold c.args.window (search rules) (search rules);
}
