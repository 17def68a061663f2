-- `trace::run::pass` meets its contract. The invariant: what the messages left print, from the place in the buffer on, completes what the whole trace prints
-- (RunLaws, `Going`), and the two buffers keep their lengths; the measure: the bytes of the text that are left. Assumes nothing.
use Prim.Native.Nat.{◌-◌}
use mathlib.Core.Path.{◌≡◌}
use lib.ListN.{length}
use Rattle.trace.proofs.run.RunLaws.{Going}
use Rattle.trace.proofs.run.pass.Given as goal

abbrev pub invariant-loop-at : goal.invariant-loop-at
invariant-loop-at l =
    Going l.fn.matching l.text l.write l.initial.out l.out l.m l.n l.at l.line l.p × (length l.topic ≡ 128) × (length l.payload ≡ 256)

abbrev pub decreases-loop-at : goal.decreases-loop-at
decreases-loop-at l = length l.text - l.at
