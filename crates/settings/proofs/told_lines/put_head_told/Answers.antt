-- `settings::told_lines::put_head_told` meets its contract: five writes, one after the other. Assumes nothing.
use native.Mathlib.Omega.{arith}
use mathlib.Core.Path.{◌∙◌}
use Rattle.settings.proofs.told_lines.ToldBounds.{head_short}
use Rattle.settings.proofs.told_lines.ToldLaws.{head_wrote}
use Rattle.settings.proofs.told_lines.put_head_told.Goals as goal

pub returns : goal.returns
returns c = let head = c.args.head.now in record {
  text = head_wrote _ head.default_action head.matching _ _ _ (c.from-action.ensures ∙ c.action_number.ensures) (c.from-matcher.ensures ∙ c.matching_number.ensures)
      (rw c.from.ensures at c.put_number_line-after_form.ensures) c.put_word_line-after_default.ensures c.put_word_line-after_matching.ensures
      c.put_connect-after_connect.ensures.text (rw c.from-2.ensures at c.put_number_line.ensures);
  short = head_short _ head.default_action head.matching _ _ _ (omega (arith, c.from.ensures)) (omega (arith, c.requires)) c.put_connect-after_connect.ensures.short;
}
