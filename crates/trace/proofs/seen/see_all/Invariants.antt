-- `trace::seen::see_all` meets its contract. The invariant: the messages that are left bring the monitor, the last time, the number and the line to those of the whole trace (SeenLaws, `Seeing`), and
-- the two buffers keep their lengths; the measure: the bytes of the text that are left. The loop knows the matcher from the monitor that it began with. Assumes nothing.
use Prim.Native.Nat.{◌-◌}
use mathlib.Core.Path.{◌≡◌}
use lib.ListN.{length}
use Rattle.trace.proofs.seen.SeenLaws.{Seeing}
use Rattle.trace.proofs.seen.see_all.Given as goal

abbrev pub invariant-loop-at : goal.invariant-loop-at
invariant-loop-at l =
    Seeing l.fn.matching l.text l.m l.last l.at l.line × (length l.topic ≡ 128) × (length l.payload ≡ 256)

abbrev pub decreases-loop-at : goal.decreases-loop-at
decreases-loop-at l = length l.text - l.at
