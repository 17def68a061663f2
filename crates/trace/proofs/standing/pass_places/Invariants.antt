-- `trace::standing::pass_places` meets its contract. The invariant: what is left to go out are the places of the buckets that are left; each takes at most 397 bytes. Assumes nothing.
use Prim.Native.Nat.{◌+◌, ◌-◌, ◌*◌, ◌≤◌}
use mathlib.Core.Path.{◌≡◌}
use lib.ListN.{length}
use Rattle.tables.specs.Standing.{oldest_first}
use Rattle.trace.specs.Seen.{sent_from}
use Rattle.trace.specs.Standing.{places_text}
use Rattle.trace.proofs.standing.PassLaws.{Passing}
use Rattle.trace.proofs.standing.pass_places.Given as goal

abbrev pub invariant-loop-turn : goal.invariant-loop-turn
invariant-loop-turn l =
    Passing l.write l.initial.out l.out l.at l.p (places_text (sent_from l.text l.first) (oldest_first (32 - l._turn) l.rest)) (places_text (sent_from l.text l.first) (oldest_first 32 l.initial.rest))
    × (l.p + 397 * (32 - l._turn) ≤ l.at + 12704) × (length l.name ≡ 128) × (length l.rest ≡ 32)
