-- `answer_pair` meets its contract: `tell_pair` does, and a buffer of `told_room` bytes holds all that is told. A failed read leaves no text to answer. Assumes nothing.
use borrow.Author.Rules.{rules}
use Rattle.hubsettings.specs.Answered.{pair_to}
use Rattle.streams.proofs.StreamLaws.{read_part}
use Rattle.hubsettings.proofs.Whole.{pair_whole}
use Rattle.hubsettings.proofs.answer_pair.Goals as goal

pub returns-in_default : goal.returns-in_default
unfolding pair_to
returns-in_default c = search rules

pub slice_bounds-tell_pair-end : goal.slice_bounds-tell_pair-end
slice_bounds-tell_pair-end c = read_part _ _ _ c.in-Ok.is c.requires.done_within

pub returns : goal.returns
returns c =
    rw (c.tell_pair-told.ensures.answer, c.tell_pair-told.ensures.buffer)
    (let h = pair_whole _ _ _ _ c.requires.room c.in-Ok.is _ _ c.tell_pair-told.ensures.enough in record { prefix_len = h.0; out_after = h.1 })
