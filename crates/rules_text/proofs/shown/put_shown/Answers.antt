use Rattle.rules_text.proofs.shown.ShownLaws.{shown_turn, shown_done}
use Rattle.rules_text.proofs.shown.put_shown.Goals as goal

pub loop-byte-preserved : goal.loop-byte-preserved
loop-byte-preserved c = shown_turn c.is_readable-whole.result _ _ c.loop-byte.invariant c.loop-byte-test.true c.shown_byte.ensures c.put_byte-p.ensures

pub returns : goal.returns
returns c = shown_done c.is_readable-whole.result _ _ c.loop-byte.invariant c.loop-byte-test.false c.is_readable-whole.ensures
