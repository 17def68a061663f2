-- `settings::told_lines::put_rule_told` meets its contract: two writes, one after the other. Assumes nothing.
use mathlib.Core.Path.{◌≡◌}
use native.Mathlib.Omega.{arith}
use borrow.Author.Rules.{rules}
use lib.ListN.{length, length-take}
use Rattle.settings.proofs.told_lines.ToldLaws.{rule_wrote}
use Rattle.settings.proofs.told_lines.put_rule_told.Goals as goal

pub returns : goal.returns
returns c =
    let rule = c.args.rule.now in
    let long : length rule.pattern ≡ 64 = search rules in
    let h = rule_wrote _ rule c.pattern.ensures (rw c.pattern.ensures (omega (arith, long, length-take rule.pattern_len rule.pattern)))
    (c.put_ruling-after_ruling.ensures.text, c.put_ruling-after_ruling.ensures.short) (c.put_pattern.ensures.text, c.put_pattern.ensures.short) in
    record { text = h.0; short = h.1 }
