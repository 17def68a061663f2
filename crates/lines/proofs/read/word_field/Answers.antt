-- `lines::read::word_field` meets its contract: a refused line stays, one that was read is answered by its word's place. Assumes nothing.
use Rattle.lines.specs.Field.{word_field}
use Rattle.lines.proofs.read.FieldLaws.{stays, answers}
use Rattle.lines.proofs.read.word_field.Goals as goal

pub returns-then-line-ne0 : goal.returns-then-line-ne0
unfolding word_field
returns-then-line-ne0 c = record { value = rw (← c.line_at-line.ensures.value) (stays _ _ _ c.line_at-line.ensures.value c.if-line-ne0.true _); within = c.line_at-line.ensures.within }

pub returns : goal.returns
unfolding word_field
returns c = let line = c.line_at-line.ensures in
    let h = answers _ _ _ line.value c.if-line-ne0.false line.within 23 c.word-place.ensures c.answered.ensures in
    record { value = rw (← line.value) h.0; within = h.1 }
