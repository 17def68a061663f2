-- `answer` meets its contract: `tell_settings` does, and a buffer of `told_room` bytes holds all that is told. A failed read leaves no text to answer. Assumes nothing.
use borrow.Author.Rules.{rules}
use Rattle.hubsettings.specs.Answered.{answer_to}
use Rattle.streams.proofs.StreamLaws.{read_part}
use Rattle.hubsettings.proofs.Whole.{answered_whole}
use Rattle.hubsettings.proofs.answer.Goals as goal

pub returns-in_default : goal.returns-in_default
unfolding answer_to
returns-in_default c = search rules

pub slice_bounds-tell_settings-end : goal.slice_bounds-tell_settings-end
slice_bounds-tell_settings-end c = read_part _ _ _ c.in-Ok.is c.requires.done_within

pub returns : goal.returns
returns c =
    rw (c.tell_settings-told.ensures.answer, c.tell_settings-told.ensures.buffer)
    (let h = answered_whole _ _ _ _ c.requires.room c.in-Ok.is c.tell_settings-told.ensures.enough in record { prefix_len = h.0; out_after = h.1 })
