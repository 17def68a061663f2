-- What a writer does to a lent buffer. Document 01 refuses a text that does not fit (number 28) before anything is written, so the writers themselves need no room: what does not fit is
-- cut off at the buffer's end, and so they take every input and follow one another without a condition.
use Rattle.std.specs.Prelude.{ℕ, ◌+◌, min, max, ◌≡◌, List, length}
use Rattle.std.proofs.lemmas.List.Edits.{sets}

-- the place after `k` bytes written at `at` into a buffer of `n` bytes: bytes past the end are cut off, and a place past the end stays
abbrev pub place_after : ℕ → ℕ → ℕ → ℕ
place_after n at k = max at (min (at + k) n)

-- the buffer `d` became `e`: `t` stands in it from `at` on, cut off at its end, all else as it was, and `r` is the place after it
pub record Wrote (d e : List ℕ) (at : ℕ) (t : List ℕ) (r : ℕ) : Type 0 where
  pub next : r ≡ place_after (length d) at (length t)
  pub bytes : e ≡ sets d at t
