use mathlib.Core.Path.{◌≡◌}
use native.Mathlib.Omega.{arith}
use lib.ListN.{length}
use lib.Seq.{take_all}
use Rattle.lines.proofs.put.WroteLaws.{wrote_none, wrote_then}
use Rattle.settings.specs.Told.{rules_told}
use Rattle.settings.proofs.told_lines.ToldLaws.{rules_more, rules_longer}
use Rattle.settings.proofs.told_lines.put_rules_told.Goals as goal

pub loop-i-init : goal.loop-i-init
unfolding rules_told
loop-i-init c = record { text = wrote_none _ _; short = omega arith }

pub loop-i-preserved : goal.loop-i-preserved
loop-i-preserved c =
    let rules = c.args.rules.now in
    record {
      text = rw (rules_more rules c.loop-i.i c.loop-i-test.true) (wrote_then c.loop-i.invariant.text c.put_rule_told-p.ensures.text);
      short = rules_longer rules c.loop-i.i c.loop-i-test.true c.loop-i.invariant.short c.put_rule_told-p.ensures.short;
    }

pub returns : goal.returns
returns c =
    let rules = c.args.rules.now in
    let e : c.loop-i.i ≡ length rules = omega arith in
    record { text = rw (e, take_all (length rules) rules (omega arith)) at c.loop-i.invariant.text; short = rw (e, take_all (length rules) rules (omega arith)) at c.loop-i.invariant.short }
