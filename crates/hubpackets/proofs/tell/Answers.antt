-- `hubpackets::tell` meets its contract. Assumes nothing.
use Rattle.streams.proofs.StreamLaws.{read_part}
use Rattle.hubpackets.proofs.tell.Goals as goal

pub slice_bounds-packets_of-end : goal.slice_bounds-packets_of-end
slice_bounds-packets_of-end c = rw c.in-Ok.is at c.read_capture-read.ensures

pub slice_bounds-packets_of-end-2 : goal.slice_bounds-packets_of-end-2
slice_bounds-packets_of-end-2 c = read_part _ _ _ c.in-Ok.is c.read_capture-read.ensures
