-- `replay::replay` is safe and ends. The invariant: each line that was read took at least one byte, so that their number fits, and both rooms are as long as before; the measure:
-- the bytes that are left. Assumes nothing.
use Rattle.std.proofs.Common.{◌≡◌, ◌+◌, ◌≤◌, length}
use Rattle.replay.proofs.replay.Given as goal

abbrev pub invariant-loop-left : goal.invariant-loop-left
invariant-loop-left l = (l.number + length l.left ≤ length l.questions) × (length l.text ≡ length l.initial.text) × (length l.out ≡ length l.initial.out)

abbrev pub decreases-loop-left : goal.decreases-loop-left
decreases-loop-left l = length l.left
