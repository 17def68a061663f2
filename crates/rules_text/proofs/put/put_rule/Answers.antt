-- `rules_text::put::put_rule` meets its contract: four writes one behind the other. Assumes nothing.
use mathlib.Core.Path.{◌∙◌}
use Rattle.rules_text.proofs.put.PutLaws.{rule_wrote}
use Rattle.rules_text.proofs.put.put_rule.Goals as goal

pub returns : goal.returns
returns c =
    rule_wrote c.args.rule.now c.pattern.ensures (c.from-action.ensures ∙ c.action_number.ensures) (c.from-policy.ensures ∙ c.policy_number.ensures)
    c.put_hex_line-a.ensures c.put_word_line-b.ensures c.put_word_line-c.ensures (rw c.from.ensures at c.put_number_line.ensures)
