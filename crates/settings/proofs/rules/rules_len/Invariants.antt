-- `settings::rules::rules_len`: the lengths of the rules before each turn are summed up. Assumes nothing.
use Prim.Native.Nat.{◌*◌, ◌≤◌}
use mathlib.Core.Path.{◌≡◌}
use mathlib.Core.List.{[], map}
use lib.ListN.{length, take}
use Rattle.forms.specs.Form.{text_all}
use Rattle.rules_text.specs.RuleText.{rule_form, rule_in}
use Rattle.settings.proofs.rules.rules_len.Given as goal

abbrev pub invariant-loop-rule : goal.invariant-loop-rule
invariant-loop-rule l =
    record {
      value : l.sum ≡ length (text_all rule_form [] (map rule_in (take l.rule-index l.rules)));
      short : l.sum ≤ l.rule-index * 171;
    }
