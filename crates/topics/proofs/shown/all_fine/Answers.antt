use Rattle.std.proofs.Common.{sym, ◌∙◌}
use Rattle.topics.proofs.shown.ShownLaws.{fine_on, fine_off, fine_end}
use Rattle.topics.proofs.shown.all_fine.Goals as goal

pub returns-then-not-is_fine : goal.returns-then-not-is_fine
returns-then-not-is_fine c = sym (fine_off _ _ c.loop-b-test.true (sym c.is_fine.ensures ∙ c.if-not-is_fine.true)) ∙ c.loop-b.invariant

pub loop-b-preserved : goal.loop-b-preserved
loop-b-preserved c = fine_on _ _ c.loop-b-test.true (sym c.is_fine.ensures ∙ c.if-not-is_fine.false) ∙ c.loop-b.invariant

pub returns : goal.returns
returns c = sym (fine_end _ _ c.loop-b-test.false) ∙ c.loop-b.invariant
