-- `settings::head::form_line` meets its contract: the word's line as it was read, but 29 where its number is 23. Assumes nothing.
use borrow.Author.Tests.{eq-eqb, ne_eqb}
use Rattle.settings.specs.Head.{form_line}
use Rattle.settings.proofs.head.form_line.Goals as goal

pub returns-then-form-ne23 : goal.returns-then-form-ne23
unfolding form_line
returns-then-form-ne23 c =
    rw (← c.begin.ensures, ← c.word_after-form.ensures, ne_eqb _ _ c.if-form-ne23.true)

pub returns : goal.returns
unfolding form_line
returns c =
    rw (← c.begin.ensures, ← c.word_after-form.ensures, eq-eqb _ _ c.if-form-ne23.false)
