-- `trace::standing_lines::put_from` meets its contract: two lines, one after the other. Assumes nothing.
use borrow.Author.Rules.{rules}
use Rattle.lines.proofs.put.WroteLaws.{wrote_then}
use Rattle.tables.specs.declared.standing.Opening.TheVariants.{From}
use Rattle.trace.specs.Standing.{opening_text}
use Rattle.trace.proofs.standing_lines.TextBounds.{opening_short}
use Rattle.trace.proofs.standing_lines.put_from.Goals as goal

pub returns : goal.returns
unfolding opening_text
returns c = record {
  text = rw c.saturating_sub-wait.ensures at (wrote_then c.put_number_line-after_time.ensures c.put_seconds_line.ensures);
  short = λ h. opening_short c.args.key.now c.args.last (From c.args.time) h (search rules);
}
