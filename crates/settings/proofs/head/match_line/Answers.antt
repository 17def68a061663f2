-- `settings::head::match_line` meets its contract: by the form, and where it has no such line by whether the line before it was refused. Assumes nothing.
use borrow.Author.Tests.{eq-eqb, ne_eqb}
use Rattle.settings.specs.Head.{match_line}
use Rattle.settings.proofs.head.match_line.Goals as goal

pub returns-then-place-eq1 : goal.returns-then-place-eq1
unfolding match_line
returns-then-place-eq1 c = rw (eq-eqb _ _ c.if-place-eq1.true) c.word_after.ensures

pub returns-then-before-ne0 : goal.returns-then-before-ne0
unfolding match_line
returns-then-before-ne0 c = rw (ne_eqb _ _ c.if-place-eq1.false, ne_eqb _ _ c.if-before-ne0.true)

pub returns : goal.returns
unfolding match_line
returns c = rw (ne_eqb _ _ c.if-place-eq1.false, eq-eqb _ _ c.if-before-ne0.false)
