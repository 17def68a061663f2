-- `trace::seen::is_named` meets its contract. The invariant: whether a Publish names the topic is decided by the messages that are left; the buffers keep their lengths. The measure: the bytes of the
-- text that are left. Assumes nothing.
use Prim.Native.Nat.{◌-◌}
use mathlib.Core.Path.{◌≡◌}
use lib.ListN.{length}
use Rattle.trace.specs.Seen.{sent_from, is_named}
use Rattle.trace.proofs.seen.is_named.Given as goal

abbrev pub invariant-loop-p : goal.invariant-loop-p
invariant-loop-p l =
    (is_named (sent_from l.text l.p) l.topic ≡ is_named (sent_from l.text l.at) l.topic) × (length l.name ≡ 128) × (length l.payload ≡ 256)

abbrev pub decreases-loop-p : goal.decreases-loop-p
decreases-loop-p l = length l.text - l.p
