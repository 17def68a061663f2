-- `lines::read::line_at` meets its contract: one law for each way out, and one for the room that the key leaves. Assumes nothing.
use mathlib.Core.Path.{sym, ◌∙◌}
use borrow.Author.Tests.{not-true, not-false}
use borrow.Author.Rules.{rules}
use Rattle.lines.proofs.read.FieldLaws.{line_inside, line_open, line_other, line_room, line_keyed}
use Rattle.lines.proofs.read.line_at.Goals as goal

pub returns-then-not-line : goal.returns-then-not-line
returns-then-not-line c = let h = line_open _ _ _ c.span_from-line.ensures c.refused.ensures (not-true _ c.if-not-line.true) in record { value = h.0; within = h.1 }

pub slice_bounds-starts_with-count : goal.slice_bounds-starts_with-count
slice_bounds-starts_with-count c = (line_inside _ _ c.args.key.now c.span_from-line.ensures).0

pub slice_bounds-starts_with-start : goal.slice_bounds-starts_with-start
slice_bounds-starts_with-start c = let h = line_inside _ _ c.args.key.now c.span_from-line.ensures in search rules

pub slice_bounds-starts_with-end : goal.slice_bounds-starts_with-end
slice_bounds-starts_with-end c = let h = line_inside _ _ c.args.key.now c.span_from-line.ensures in search rules

pub returns-then-not-starts_with : goal.returns-then-not-starts_with
returns-then-not-starts_with c = let other = sym c.starts_with.ensures ∙ c.if-not-starts_with.true in
    let h = line_other _ _ _ c.span_from-line.ensures c.refused-then-not-starts_with.ensures (not-false _ c.if-not-line.false) other in
    record { value = h.0; within = h.1 }

pub overflow_add-result : goal.overflow_add-result
overflow_add-result c =
    let keyed = sym c.starts_with.ensures ∙ c.if-not-starts_with.false in
    let h = line_room _ _ _ c.span_from-line.ensures (not-false _ c.if-not-line.false) keyed in
    search rules

pub overflow_add-result-2 : goal.overflow_add-result-2
overflow_add-result-2 c =
    let keyed = sym c.starts_with.ensures ∙ c.if-not-starts_with.false in
    let h = line_room _ _ _ c.span_from-line.ensures (not-false _ c.if-not-line.false) keyed in
    search rules

pub returns : goal.returns
returns c = let keyed = sym c.starts_with.ensures ∙ c.if-not-starts_with.false in
    let h = line_keyed _ _ _ c.span_from-line.ensures (not-false _ c.if-not-line.false) keyed in record { value = h.0; within = h.1 }
