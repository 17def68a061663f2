-- `lines::read::hex_field` meets its contract: a refused line stays, as the buffer does; one that was read is answered by what `value::hex` says of its value. Assumes nothing.
use borrow.Author.Tests.{eq-eqb, ne_eqb}
use Rattle.lines.specs.Field.{hex_field, hex_kept}
use Rattle.lines.proofs.read.FieldLaws.{stays, counts, counts_not}
use Rattle.lines.proofs.read.hex_field.Goals as goal

pub returns-then-line-ne0 : goal.returns-then-line-ne0
unfolding hex_field hex_kept
returns-then-line-ne0 c = record {
  value = rw (← c.line_at-line.ensures.value) (stays _ _ _ c.line_at-line.ensures.value c.if-line-ne0.true _);
  within = c.line_at-line.ensures.within;
  kept = rw (← c.line_at-line.ensures.value, ne_eqb _ _ c.if-line-ne0.true);
}

pub returns-then-number-ne0 : goal.returns-then-number-ne0
unfolding hex_field hex_kept
returns-then-number-ne0 c = let line = c.line_at-line.ensures in
    let h = counts_not _ _ _ line.value c.if-line-ne0.false _ c.hex-number.ensures.value c.if-number-ne0.true c.refused.ensures in
    record { value = rw (← line.value) h.0; within = h.1; kept = rw (← line.value, eq-eqb _ _ c.if-line-ne0.false) c.hex-number.ensures.kept }

pub returns : goal.returns
unfolding hex_field hex_kept
returns c = let line = c.line_at-line.ensures in
    let h = counts _ _ _ line.value c.if-line-ne0.false line.within c.hex-number.ensures.value c.if-number-ne0.false c.read_as.ensures in
    record { value = rw (← line.value) h.0; within = h.1; kept = rw (← line.value, eq-eqb _ _ c.if-line-ne0.false) c.hex-number.ensures.kept }
