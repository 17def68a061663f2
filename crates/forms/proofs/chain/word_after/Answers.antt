use borrow.Author.Tests.{eq-eqb, ne_eqb}
use Rattle.forms.specs.Chain.{word_after}
use Rattle.forms.proofs.chain.word_after.Goals as goal

-- src/chain.rt:62:9
pub returns-then-before-ne0 : goal.returns-then-before-ne0
unfolding word_after
returns-then-before-ne0 c = rw (ne_eqb _ _ c.if-before-ne0.true)

-- src/chain.rt:58:1
pub returns : goal.returns
unfolding word_after
returns c = rw (c.lined_as.ensures, ← c.word_field.ensures.value, eq-eqb _ _ c.if-before-ne0.false)
