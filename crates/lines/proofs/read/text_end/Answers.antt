-- `lines::read::text_end` meets its contract, test by test. Assumes nothing.
use borrow.Author.Tests.{le-leb, lt-leb}
use Rattle.lines.specs.Field.{text_end}
use Rattle.lines.proofs.read.text_end.Goals as goal

pub returns-then-text-at : goal.returns-then-text-at
unfolding text_end
returns-then-text-at c = rw (le-leb _ _ c.if-text-at.true)

pub returns-then-span_from : goal.returns-then-span_from
unfolding text_end
returns-then-span_from c = rw (lt-leb _ _ c.if-text-at.false, ← c.span_from.ensures, c.if-span_from.true)

pub returns-else-span_from : goal.returns-else-span_from
unfolding text_end
returns-else-span_from c = rw (lt-leb _ _ c.if-text-at.false, ← c.span_from.ensures, c.if-span_from.false)
