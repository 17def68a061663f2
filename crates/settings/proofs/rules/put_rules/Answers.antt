use Rattle.lines.proofs.put.WroteLaws.{wrote_none, wrote_then}
use Rattle.forms.specs.Form.{text_all}
use Rattle.settings.proofs.rules.RulesText.{rules_more}
use Rattle.settings.proofs.rules.put_rules.Goals as goal

pub loop-rule-init : goal.loop-rule-init
unfolding text_all
loop-rule-init c = wrote_none _ _

pub loop-rule-preserved : goal.loop-rule-preserved
loop-rule-preserved c = rw (rules_more c.args.rules.now c.loop-rule.rule-index c.loop-rule-test.true) (wrote_then c.loop-rule.invariant c.put_rule-p.ensures)
