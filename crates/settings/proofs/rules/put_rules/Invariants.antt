-- `settings::rules::put_rules`: the rules before each turn are written. Assumes nothing.
use mathlib.Core.List.{[], map}
use lib.ListN.{take}
use Rattle.lines.specs.Wrote.{Wrote}
use Rattle.forms.specs.Form.{text_all}
use Rattle.rules_text.specs.RuleText.{rule_form, rule_in}
use Rattle.settings.proofs.rules.put_rules.Given as goal

abbrev pub invariant-loop-rule : goal.invariant-loop-rule
invariant-loop-rule l = Wrote l.initial.out l.out l.at (text_all rule_form [] (map rule_in (take l.rule-index l.rules))) l.p
