-- `settings::told_lines::put_ruling` meets its contract: four writes, one after the other. Assumes nothing.
use mathlib.Core.Path.{◌∙◌}
use borrow.Author.Rules.{rules}
use Rattle.settings.proofs.told_lines.ToldBounds.{ruling_short}
use Rattle.settings.proofs.told_lines.ToldLaws.{ruling_wrote}
use Rattle.settings.proofs.told_lines.put_ruling.Goals as goal

pub returns : goal.returns
returns c = record {
  text = ruling_wrote _ c.args.action c.args.policy _ (c.from-action_place.ensures ∙ c.action_number.ensures) (c.from-policy_place.ensures ∙ c.policy_number.ensures)
      c.put_decimal-after_place.ensures c.put_word-after_action.ensures c.put_word-after_policy.ensures c.put_rate.ensures.text;
  short = ruling_short _ c.args.action c.args.policy _ (search rules) c.put_rate.ensures.short;
}
