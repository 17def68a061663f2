-- `answer` meets its contract: `run_trace_by` does, and a buffer of `enough` bytes holds all of the text. A failed read leaves no text to answer. Assumes nothing.
use borrow.Author.Rules.{rules}
use Rattle.hubtrace.specs.Answered.{answer_to}
use Rattle.streams.proofs.StreamLaws.{read_part}
use Rattle.hubtrace.proofs.Whole.{answered_whole}
use Rattle.hubtrace.proofs.answer.Goals as goal

pub returns-in_default : goal.returns-in_default
unfolding answer_to
returns-in_default c = search rules

pub slice_bounds-run_trace_by-end : goal.slice_bounds-run_trace_by-end
slice_bounds-run_trace_by-end c = read_part _ _ _ c.in-Ok.is c.requires.done_within

pub returns : goal.returns
returns c =
    rw (c.run_trace_by-end.ensures.end, c.run_trace_by-end.ensures.bytes) (let h = answered_whole _ _ _ _ _ c.requires.room c.in-Ok.is in record { prefix_len = h.0; out_after = h.1 })
