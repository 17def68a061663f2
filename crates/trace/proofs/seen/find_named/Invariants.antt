-- `trace::seen::find_named` meets its contract. The invariant: the first message that has the identity is the first of those that are left; the buffers keep their lengths. The measure: the bytes of
-- the text that are left. Assumes nothing.
use Prim.Native.Nat.{◌-◌}
use mathlib.Core.Path.{◌≡◌}
use lib.ListN.{length}
use Rattle.trace.specs.Seen.{sent_from, named_by}
use Rattle.trace.proofs.seen.find_named.Given as goal

abbrev pub invariant-loop-p : goal.invariant-loop-p
invariant-loop-p l =
    (named_by (sent_from l.text l.p) l.held ≡ named_by (sent_from l.text l.at) l.held) × (length l.topic ≡ 128) × (length l.payload ≡ 256) × (length l.initial.name ≡ 128 → length l.name ≡ 128)

abbrev pub decreases-loop-p : goal.decreases-loop-p
decreases-loop-p l = length l.text - l.p
