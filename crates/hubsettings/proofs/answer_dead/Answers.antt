-- `answer_dead` meets its contract: `tell_dead` does, and a buffer of `told_room` bytes holds all that is told. A failed read leaves no text to answer. Assumes nothing.
use borrow.Author.Rules.{rules}
use Rattle.hubsettings.specs.Answered.{dead_to}
use Rattle.streams.proofs.StreamLaws.{read_part}
use Rattle.hubsettings.proofs.Whole.{dead_whole}
use Rattle.hubsettings.proofs.answer_dead.Goals as goal

pub returns-in_default : goal.returns-in_default
unfolding dead_to
returns-in_default c = search rules

pub slice_bounds-tell_dead-end : goal.slice_bounds-tell_dead-end
slice_bounds-tell_dead-end c = read_part _ _ _ c.in-Ok.is c.requires.done_within

pub returns : goal.returns
returns c =
    rw (c.tell_dead-told.ensures.answer, c.tell_dead-told.ensures.buffer)
    (let h = dead_whole _ _ _ _ c.requires.room c.in-Ok.is c.tell_dead-told.ensures.enough in record { prefix_len = h.0; out_after = h.1 })
