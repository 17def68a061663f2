-- Where a text stands in a longer one: to reading what `Wrote` of `lines` is to writing.
-- Assumes nothing.
use Rattle.std.specs.Prelude.{ℕ, ◌+◌, ◌≡◌, List, ◌++◌, length, drop}

-- `t` stands in `s` at `at`, and `r` is the place after it
pub record Stands (s : List ℕ) (at : ℕ) (t : List ℕ) (r : ℕ) : Type 0 where
  pub next : r ≡ at + length t
  pub bytes : drop at s ≡ t ++ drop r s
