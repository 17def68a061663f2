-- `stand` meets its contract: `write_standing` does, and a buffer of `enough` bytes holds all of the lines. A failed read leaves no text to answer. Assumes nothing.
use borrow.Author.Rules.{rules}
use Rattle.hubtrace.specs.Answered.{standing_after}
use Rattle.streams.proofs.StreamLaws.{read_part}
use Rattle.hubtrace.proofs.Whole.{stands_whole}
use Rattle.hubtrace.proofs.stand.Goals as goal

pub returns-in_default : goal.returns-in_default
unfolding standing_after
returns-in_default c = search rules

pub slice_bounds-write_standing-end : goal.slice_bounds-write_standing-end
slice_bounds-write_standing-end c = read_part _ _ _ c.in-Ok.is c.requires.done_within

pub returns : goal.returns
returns c =
    rw (c.write_standing-end.ensures.end, c.write_standing-end.ensures.bytes)
    (let h = stands_whole _ _ _ _ _ c.requires.room c.in-Ok.is c.write_standing-end.ensures.enough in record { prefix_len = h.0; out_after = h.1 })
