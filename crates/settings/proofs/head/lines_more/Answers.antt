-- `settings::head::lines_more` meets its contract: one test. Assumes nothing.
use native.Mathlib.Omega.{arith}
use borrow.Author.Tests.{eq-eqb, ne_eqb}
use Rattle.settings.specs.Head.{lines_more}
use Rattle.settings.proofs.head.lines_more.Goals as goal

pub returns-then-place-eq1 : goal.returns-then-place-eq1
unfolding lines_more
returns-then-place-eq1 c = record { value = rw (eq-eqb _ _ c.if-place-eq1.true); few = omega arith }

pub returns : goal.returns
unfolding lines_more
returns c = record { value = rw (ne_eqb _ _ c.if-place-eq1.false); few = omega arith }
