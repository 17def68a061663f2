-- The tracker table stays sound: all free at the start, under a removal, and under a fed message of a topic. A message of a held identity
-- keeps it; a newcomer's was not held. Assumes nothing.
use mathlib.Core.Bool.{true, false, true≢false, false≢true}
use mathlib.Core.List.{List}
use mathlib.Core.Path.{◌≡◌, refl, sym, ◌∙◌}
use Prim.Native.Nat.{ℕ, ◌<◌}
use native.Mathlib.Omega.{arith}
use lib.ListN.{length, get_or, set, replicate, length-set, get_or-replicate}
use Rattle.laws.proofs.Tests.{both}
use Rattle.laws.proofs.Lists.{each, pairs}
use Rattle.tables.specs.Identity.{id_of, is_of}
use Rattle.tables.specs.Scan.{seat}
use Rattle.tables.specs.Trackers.{holds_tracker, fed, fresh_tracker, feed, feed_at, no_tracker, empty_tracker}
use Rattle.tables.specs.declared.trackers.EwmaTracker.{EwmaTracker}
use Rattle.tables.specs.declared.trackers.TrackerDecision.{TrackerDecision}
use Rattle.tables.proofs.ScanLaws.{seat-lt}
use Rattle.tables.proofs.trackers.TrackerLaws.{is_free, last_update}
use Rattle.tables.proofs.LookupLaws.{looked_up}
use Rattle.monitor.specs.Sound.{same_id, SoundTrackers}
use Rattle.monitor.proofs.SoundIds.{prefix_long, new_first, new_last}

-- two trackers are not both live with one identity
abbrev Apart : EwmaTracker → EwmaTracker → Type 0
Apart a b = a.active ≡ true → b.active ≡ true → same_id a.id b.id ≡ false

-- a tracker that may stand in a sound table
record SoundTracker (k : EwmaTracker) : Type 0 where
  free : k.active ≡ false → k ≡ empty_tracker
  long : length k.id.prefix ≡ 32

-- all free
pub trackers_fresh : SoundTrackers (replicate 16 empty_tracker)
trackers_fresh =
    record {
      size = refl;
      free = λ i h e. get_or-replicate 16 i empty_tracker no_tracker h;
      long = λ i h. rw (get_or-replicate 16 i empty_tracker no_tracker h);
      apart = λ i j l h e f. absurd (false≢true (rw (get_or-replicate 16 j empty_tracker no_tracker h) at f));
    }

-- a tracker stored that is sound and apart from the others
module _ {T : List EwmaTracker} (s : SoundTrackers T) (k : ℕ) (x : EwmaTracker) (h : k < 16) where
  within : k < length T
  within = let e = s.size in omega arith

  store : SoundTracker x → ((i : ℕ) → i < k → Apart (get_or T i no_tracker) x) → ((j : ℕ) → k < j → j < 16 → Apart x (get_or T j no_tracker))
      → SoundTrackers (set T k x)
  store b before after =
      record {
        size = length-set T k x ∙ s.size;
        free = each no_tracker T k x within (λ i k. i < 16 → k.active ≡ false → k ≡ empty_tracker) (λ l. b.free) (λ j n. s.free j);
        long = each no_tracker T k x within (λ i k. i < 16 → length k.id.prefix ≡ 32) (λ l. b.long) (λ j n. s.long j);
        apart = pairs no_tracker T k x within Apart 16 (λ i l m. before i l) after (λ i j m n. s.apart i j);
      }

-- a place made free
pub tracker_removed : {T : List EwmaTracker} → SoundTrackers T → (k : ℕ) → k < 16 → SoundTrackers (set T k empty_tracker)
tracker_removed s k h =
    store s k empty_tracker h
    (record { free = λ e. refl; long = refl })
    (λ i l e f. absurd (false≢true f))
    (λ j l m e f. absurd (false≢true e))

module _ (t : List ℕ) (size now : ℕ) {T : List EwmaTracker} (s : SoundTrackers T) where
  -- the table with a tracker stored
  abbrev Stays : TrackerDecision → Type 0
  Stays d = SoundTrackers (set T d.at d.tracker)

  held : (i : ℕ) → i < length T → holds_tracker (id_of t) (get_or T i no_tracker) ≡ true → Stays (feed_at i (get_or T i no_tracker) size now)
  unfolding holds_tracker fed
  held i l e =
      let z = s.size in
      let h : i < 16 = omega arith in
      let k = get_or T i no_tracker in
      let live = (both k.active (is_of (id_of t) k.id) e).0 in
      store s i (fed k size now) h
      (record { free = λ f. absurd (true≢false (sym live ∙ f)); long = s.long i h })
      (λ j m. s.apart j i m h)
      (λ j m. s.apart i j m)

  new : ((j : ℕ) → j < length T → holds_tracker (id_of t) (get_or T j no_tracker) ≡ false) → Stays (feed_at (seat is_free last_update T) (fresh_tracker (id_of t)) size now)
  unfolding holds_tracker fed
  new none =
      let z = s.size in
      let l : seat is_free last_update T < length T = seat-lt is_free last_update T no_tracker (omega arith) in
      let away : (j : ℕ) → j < 16 → (get_or T j no_tracker).active ≡ true → is_of (id_of t) (get_or T j no_tracker).id ≡ false =
      λ j h e. rw e at (none j (omega arith)) in
      store s (seat is_free last_update T) (fed (fresh_tracker (id_of t)) size now) (omega arith)
      (record { free = λ f. absurd (true≢false f); long = prefix_long t })
      (λ j m f g. new_last (id_of t) (get_or T j no_tracker).id (away j (omega arith) f))
      (λ j m n f g. new_first (id_of t) (get_or T j no_tracker).id (away j n g))

  -- a message that feeds
  pub trackers_after : Stays (feed T (id_of t) size now)
  unfolding feed
  trackers_after =
      looked_up (holds_tracker (id_of t)) T no_tracker (λ i k. feed_at i k size now) (seat is_free last_update T) (fresh_tracker (id_of t)) Stays held new
