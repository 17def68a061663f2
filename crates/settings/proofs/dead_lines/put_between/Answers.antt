-- `settings::dead_lines::put_between` meets its contract: one sentence where nothing was found, else three writes, one after the other. Assumes nothing.
use Rattle.settings.proofs.dead_lines.DeadLaws.{none_wrote, some_wrote}
use Rattle.settings.proofs.dead_lines.put_between.Goals as goal

pub returns-then-witness-eq0 : goal.returns-then-witness-eq0
returns-then-witness-eq0 c = let h = none_wrote _ _ _ c.if-witness-eq0.true (c.put_two_rules.ensures.text, c.put_two_rules.ensures.short) in record { text = h.0; short = h.1 }

pub returns : goal.returns
returns c = let h = some_wrote _ _ _ c.if-witness-eq0.false c.requires (c.put_two_rules-after_sentence.ensures.text, c.put_two_rules-after_sentence.ensures.short)
    (c.put_shown_line-after_text.ensures.text, c.put_shown_line-after_text.ensures.short) c.put_hex_line.ensures in record { text = h.0; short = h.1 }
