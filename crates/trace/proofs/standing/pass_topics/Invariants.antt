-- `trace::standing::pass_topics` meets its contract. The invariant: what is left to go out are the topics of the messages that are left; a message takes 44 bytes of the text or more, and its topic
-- at most 490 of the buffer. The measure: the bytes of the text that are left. Assumes nothing.
use Prim.Native.Nat.{◌+◌, ◌-◌, ◌*◌, ◌≤◌}
use mathlib.Core.Path.{◌≡◌}
use lib.ListN.{length}
use Rattle.trace.specs.Seen.{sent_from}
use Rattle.trace.specs.Standing.{topics_text}
use Rattle.trace.proofs.standing.PassLaws.{Passing}
use Rattle.trace.proofs.standing.pass_topics.Given as goal

abbrev pub invariant-loop-q : goal.invariant-loop-q
invariant-loop-q l =
    Passing l.write l.initial.out l.out l.at l.p (topics_text l.m l.last (sent_from l.text l.q)) (topics_text l.m l.last (sent_from l.text l.first))
    × (44 * l.p + 490 * l.first ≤ 44 * l.at + 490 * l.q) × (l.first ≤ l.q) × (l.q - l.first ≤ length l.text - l.first) × (length l.topic ≡ 128) × (length l.payload ≡ 256)

abbrev pub decreases-loop-q : goal.decreases-loop-q
decreases-loop-q l = length l.text - l.q
