-- `hubpackets::read_capture` meets its contract. Assumes nothing.
use Rattle.hubpackets.proofs.read_capture.Goals as goal

pub returns : goal.returns
returns c = rw c.in-Ok.is at c.read_all-read.ensures
