-- Whether a text has no control character, as a loop over its bytes sees it: by the byte at a place and by those after it; and how long a text is as it is shown.
-- Assumes nothing.
use Rattle.std.proofs.Common.{◌≡◌, ℕ, ◌+◌, ◌<◌, ◌≤◌, true, false, List, length, get_or, drop, drop_of_length-le}
use lib.ListN.{length-map}
use Rattle.slices.proofs.bytes.WalkLaws.{opened}
use Rattle.topics.specs.Shown.{fine, fine_after, readable, shown_byte, shown}

module _ (s : List ℕ) {i : ℕ} (before : ℕ) where
  -- whether what is left of a text is fine: as in the rest at a fine byte, no at another, and yes at the end
  pub fine_on : i < length s → fine before (get_or s i 0) ≡ true → fine_after (get_or s i 0) (drop (i + 1) s) ≡ fine_after before (drop i s)
  unfolding fine_after
  fine_on l e = rw (opened s i l, e)

  pub fine_off : i < length s → fine before (get_or s i 0) ≡ false → fine_after before (drop i s) ≡ false
  unfolding fine_after
  fine_off l e = rw (opened s i l, e)

  pub fine_end : length s ≤ i → fine_after before (drop i s) ≡ true
  unfolding fine_after
  fine_end l = rw (drop_of_length-le s l)

-- a text is as long as it is shown
pub shown-length : (s : List ℕ) → length (shown s) ≡ length s
unfolding shown
shown-length s = length-map s (shown_byte (readable s))
