-- `turn` meets its contract: `turn_settings` does, and a buffer of `told_room` bytes holds all that is said. A failed read leaves no text to answer. Assumes nothing.
use borrow.Author.Rules.{rules}
use Rattle.hubsettings.specs.Answered.{turn_to, turn_end}
use Rattle.streams.proofs.StreamLaws.{read_part}
use Rattle.hubsettings.proofs.Whole.{turned_whole}
use Rattle.hubsettings.proofs.turn.Goals as goal

pub returns-in_default : goal.returns-in_default
unfolding turn_to turn_end
returns-in_default c = let failed = c.in_default.is in record { value = rw failed; prefix_len = search rules; out_after = rw failed }

pub slice_bounds-turn_settings-end : goal.slice_bounds-turn_settings-end
slice_bounds-turn_settings-end c = read_part _ _ _ c.in-Ok.is c.requires.done_within

pub returns : goal.returns
returns c =
    rw (c.turn_settings.ensures.answer, c.turn_settings.ensures.buffer)
    (let h = turned_whole _ _ _ _ c.requires.room c.in-Ok.is _ c.turn_settings.ensures.enough in record { value = h.0; prefix_len = h.1.0; out_after = h.1.1 })
