use native.Mathlib.Omega.{arith}
use Rattle.forms.specs.Form.{text_all}
use Rattle.settings.proofs.rules.RulesText.{rules_longer}
use Rattle.settings.proofs.rules.rules_len.Goals as goal

pub loop-rule-init : goal.loop-rule-init
unfolding text_all
loop-rule-init c = record { value = omega arith; short = omega arith }

pub loop-rule-preserved : goal.loop-rule-preserved
loop-rule-preserved c = record { value = omega (arith, rules_longer c.args.rules.now c.loop-rule.rule-index c.loop-rule-test.true); short = omega arith }
