-- `settings::convert::form_meant` meets its contract: one test. Assumes nothing.
use borrow.Author.Tests.{eq-eqb, ne_eqb}
use Rattle.settings.proofs.convert.form_meant.Goals as goal

pub returns-then-form-eq0 : goal.returns-then-form-eq0
returns-then-form-eq0 c = rw (eq-eqb _ _ c.if-form-eq0.true)

pub returns : goal.returns
returns c = rw (ne_eqb _ _ c.if-form-eq0.false)
