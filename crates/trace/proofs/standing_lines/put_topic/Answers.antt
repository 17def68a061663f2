-- `trace::standing_lines::put_topic` meets its contract: a name, three lines and an opening, one after the other. Assumes nothing.
use Rattle.std.specs.Prelude.{Ok}
use Rattle.monitor.specs.Standing.{told_outlook, told_left}
use native.Mathlib.Omega.{arith}
use borrow.Author.Rules.{rules}
use Rattle.lines.proofs.put.WroteLaws.{wrote_then}
use Rattle.trace.specs.Standing.{topic_text}
use Rattle.trace.proofs.standing_lines.TextBounds.{topic_short}
use Rattle.trace.proofs.standing_lines.put_topic.Goals as goal

pub returns : goal.returns
unfolding topic_text
returns c = let given = c.args in record {
  text = wrote_then
      (wrote_then
      (wrote_then (wrote_then c.put_name-after_name.ensures (rw c.from.ensures at c.put_number_line-after_rate.ensures))
      (rw c.tokens_of-tokens.ensures.0 at c.put_number_line-after_tokens.ensures))
      (rw c.from-2.ensures at c.put_number_line-after_kind.ensures))
      c.put_opening.ensures.text;
  short = λ h. topic_short given.topic.now (told_outlook (Ok given.outlook.now)) (told_left (Ok given.left.now)) given.last h (search rules) (omega (arith, c.tokens_of-tokens.ensures))
      (search rules) (c.put_opening.ensures.short (omega arith));
}
