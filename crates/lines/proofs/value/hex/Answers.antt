-- `lines::value::hex` meets its contract: refused, the buffer stays; else the bytes are in it. Assumes nothing.
use mathlib.Core.Path.{sym, ◌∙◌}
use borrow.Author.Tests.{eq-eqb, ne_eqb}
use Rattle.lines.specs.ReadHex.{hex_into}
use Rattle.lines.proofs.value.hex.Goals as goal

pub returns-then-number-ne0 : goal.returns-then-number-ne0
unfolding hex_into
returns-then-number-ne0 c = record { value = c.hex_refusal-number.ensures; kept = rw (← c.hex_refusal-number.ensures, ne_eqb _ _ c.if-number-ne0.true) }

pub returns : goal.returns
unfolding hex_into
returns c = let taken = c.hex_refusal-number.ensures in record { value = sym c.if-number-ne0.false ∙ taken; kept = rw (← taken, eq-eqb _ _ c.if-number-ne0.false) c.put_unhex.ensures }
