-- the bytes that were read lie within the buffer, which keeps its length; the measure is the turns that are left
use Rattle.std.specs.Prelude.{length, ◌≡◌, ◌≤◌}
use Rattle.streams.proofs.input.read_all.Given as goal

abbrev pub invariant-loop-n : goal.invariant-loop-n
invariant-loop-n g l = (l.n ≤ length l.buf) × (length l.buf ≡ length l.initial.buf)

abbrev pub decreases-loop-n : goal.decreases-loop-n
decreases-loop-n g l = l.left
