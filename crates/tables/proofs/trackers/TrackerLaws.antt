-- Payload trackers: what a fed message does to the table. Last, what the crates above need: the tracker handed back
-- is fine if the table's were and the topic's prefix length is. Assumes nothing.
use mathlib.Core.Path.{◌≡◌}
use mathlib.Core.Bool.{Bool, true, not}
use mathlib.Core.List.{List}
use Prim.Native.Nat.{ℕ, ◌<◌, ◌≤◌}
use borrow.Author.Tests.{le-leb}
use lib.ListN.{length, get_or}
use Rattle.tables.specs.declared.identity.Id.{Id}
use Rattle.tables.specs.declared.trackers.EwmaTracker.{EwmaTracker}
use Rattle.tables.specs.declared.trackers.TrackerDecision.{TrackerDecision}
use Rattle.tables.specs.Scan.{seat}
use Rattle.tables.specs.Trackers.{fed, fresh_tracker, holds_tracker, no_tracker, feed_at, feed, tracker_fine}
use Rattle.tables.proofs.LookupLaws.{looked_up}

-- what a newcomer's place is chosen by: a free one, else the least update time
abbrev pub is_free : EwmaTracker → Bool
is_free k = not k.active

abbrev pub last_update : EwmaTracker → ℕ
last_update k = k.last_update_us

-- what a fed message does, from the search for the topic's tracker and the choice of a place
module _ (ks : List EwmaTracker) (id : Id) (size t : ℕ) where
  -- the answer at a place
  abbrev at : ℕ → EwmaTracker → TrackerDecision
  at i k = feed_at i k size t

  feed_either : (P : TrackerDecision → Type 0) → ((i : ℕ) → i < length ks → holds_tracker id (get_or ks i no_tracker) ≡ true → P (at i (get_or ks i no_tracker)))
      → P (at (seat is_free last_update ks) (fresh_tracker id)) → P (feed ks id size t)
  unfolding feed
  feed_either = λ P a b. looked_up (holds_tracker id) ks no_tracker at (seat is_free last_update ks) (fresh_tracker id) P a (λ _. b)

  -- the tracker handed back is fine, if all of the table's are and the topic's prefix length is at most 32
  pub feed_fine : ((j : ℕ) → j < length ks → tracker_fine (get_or ks j no_tracker) ≡ true) → id.prefix_len ≤ 32
      → tracker_fine (feed ks id size t).tracker ≡ true
  unfolding fed
  feed_fine fine h = feed_either (λ d. tracker_fine d.tracker ≡ true) (λ i l e. fine i l) (le-leb _ _ h)
