-- A buffer of `told_room` bytes holds all that is said of any text: the calls never end in 28 there, and the bytes that they count are all of what is said. Assumes nothing.
use Prim.Native.Nat.{ℕ, ◌≤◌}
use mathlib.Core.Path.{◌≡◌}
use mathlib.Core.List.{List}
use native.Mathlib.Omega.{arith}
use borrow.Author.Tests.{le-leb}
use lib.ListN.{length, take}
use Rattle.io.specs.Counts.{IsPrefixLen}
use Rattle.settings.specs.Dead.{dead_text, dead_end, dead_kept, pair_text, pair_end, pair_kept}
use Rattle.settings.specs.Told.{told_text, turned_text, told_room, told_end, turned_end, kept_in, told_kept, turned_kept}
use Rattle.settings.proofs.dead.ToldDead.{dead_long, pair_long}
use Rattle.settings.proofs.told.TellLaws.{told_long}
use Rattle.settings.proofs.told.TurnLaws.{turned_long}
use Rattle.std.proofs.Common.{Result, Ok, ℤ}
use Rattle.streams.proofs.StreamLaws.{stored}
use Rattle.hubsettings.specs.Answered.{answer_to, dead_to, pair_to, turn_to, turn_end}

-- a text that is kept in such a buffer
module _ (d t : List ℕ) {n : ℕ} (h : told_room ≡ length d) (few : told_room ≤ length d → length t ≤ told_room) (e : told_room ≤ length d → n ≡ length t) where
  whole : IsPrefixLen n (kept_in d t) × (take n (kept_in d t) ≡ t)
  whole =
      let room : told_room ≤ length d = omega (arith, h) in
      let fits : length t ≤ length d = omega (arith, few room, h) in
      rw (e room, le-leb _ _ room) (stored d t fits)

module _ (d s : List ℕ) (r : Result ℕ ℤ) (k : ℕ) (h : told_room ≡ length d) (e : r ≡ Ok k) where
  pub answered_whole : (told_room ≤ length d → length (told_text (take k s)) ≤ told_room)
      → IsPrefixLen (told_end (length d) (take k s)).length (told_kept d (take k s)) × (take (told_end (length d) (take k s)).length (told_kept d (take k s)) ≡ answer_to r s)
  unfolding answer_to told_kept
  answered_whole few = rw e (whole d (told_text (take k s)) h few (told_long (take k s) (length d)))

  pub dead_whole : (told_room ≤ length d → length (dead_text (take k s)) ≤ told_room)
      → IsPrefixLen (dead_end (length d) (take k s)).length (dead_kept d (take k s)) × (take (dead_end (length d) (take k s)).length (dead_kept d (take k s)) ≡ dead_to r s)
  unfolding dead_to dead_kept
  dead_whole few = rw e (whole d (dead_text (take k s)) h few (dead_long (take k s) (length d)))

  pub pair_whole : (later earlier : ℕ) → (told_room ≤ length d → length (pair_text later earlier (take k s)) ≤ told_room)
      → IsPrefixLen (pair_end later earlier (length d) (take k s)).length (pair_kept later earlier d (take k s))
      × (take (pair_end later earlier (length d) (take k s)).length (pair_kept later earlier d (take k s)) ≡ pair_to later earlier r s)
  unfolding pair_to pair_kept
  pair_whole later earlier few = rw e (whole d (pair_text later earlier (take k s)) h few (pair_long later earlier (take k s) (length d)))

  pub turned_whole : (form : ℕ) → (told_room ≤ length d → length (turned_text form (take k s)) ≤ told_room)
      → (turned_end form (length d) (take k s) ≡ turn_end form told_room r s)
      × (IsPrefixLen (turned_end form (length d) (take k s)).length (turned_kept form d (take k s))
      × (take (turned_end form (length d) (take k s)).length (turned_kept form d (take k s)) ≡ turn_to form r s))
  unfolding turn_to turn_end turned_kept
  turned_whole form few = rw e (rw (← h), whole d (turned_text form (take k s)) h few (turned_long (take k s) form (length d)))
