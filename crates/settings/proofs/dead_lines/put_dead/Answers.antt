-- `settings::dead_lines::put_dead` meets its contract: nothing where the number is 0, else three writes, one after the other. Assumes nothing.
use Rattle.settings.proofs.dead_lines.DeadLaws.{dead_nothing, dead_wrote}
use Rattle.settings.proofs.dead_lines.put_dead.Goals as goal

pub returns-then-cover-eq0 : goal.returns-then-cover-eq0
returns-then-cover-eq0 c = let h = dead_nothing _ _ _ _ _ c.if-cover-eq0.true in record { text = h.0; short = h.1 }

pub returns : goal.returns
returns c = let h = dead_wrote _ _ _ c.if-cover-eq0.false (c.put_two_rules-after_sentence.ensures.text, c.put_two_rules-after_sentence.ensures.short)
    (c.put_pattern_line-after_text.ensures.text, c.put_pattern_line-after_text.ensures.short)
    (c.put_pattern_line.ensures.text, c.put_pattern_line.ensures.short) in record { text = h.0; short = h.1 }
