-- `settings::told_lines::put_closing` meets its contract: two lines, one after the other. Assumes nothing.
use borrow.Author.Rules.{rules}
use Rattle.lines.proofs.put.WroteLaws.{wrote_then}
use Rattle.settings.specs.Told.{closing_told}
use Rattle.settings.proofs.told_lines.ToldBounds.{closing_short}
use Rattle.settings.proofs.told_lines.put_closing.Goals as goal

pub returns : goal.returns
unfolding closing_told
returns c = record {
  text = wrote_then (rw c.from.ensures at c.put_number_line-after_end.ensures) c.put_number_line.ensures;
  short = closing_short c.args.number c.args.line (search rules) (search rules);
}
