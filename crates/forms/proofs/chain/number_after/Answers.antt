use borrow.Author.Tests.{eq-eqb, ne_eqb}
use Rattle.forms.specs.Chain.{number_after}
use Rattle.forms.proofs.chain.number_after.Goals as goal

-- src/chain.rt:52:9
pub returns-then-before-ne0 : goal.returns-then-before-ne0
unfolding number_after
returns-then-before-ne0 c = rw (ne_eqb _ _ c.if-before-ne0.true)

-- src/chain.rt:41:1
pub returns : goal.returns
unfolding number_after
returns c = rw (c.lined_as.ensures, ← c.number_field.ensures.value, eq-eqb _ _ c.if-before-ne0.false)
