-- How long the lines are at most that tell which rules can never speak, and what stands between two rules. Assumes nothing.
use Prim.Native.Nat.{ℕ, ◌+◌, ◌^◌, ◌≤◌, ◌<◌}
use mathlib.Core.Path.{◌≡◌}
use mathlib.Core.List.{List, [], ◌∷◌}
use native.Mathlib.Omega.{arith}
use lib.Dec.{eqb}
use lib.ListN.{length, length-append}
use Rattle.laws.proofs.Cases.{by}
use Rattle.slices.specs.Bytes.{count_of}
use Rattle.topics.proofs.shown.ShownLaws.{shown-length}
use Rattle.lines.specs.Decimal.{decimal}
use Rattle.lines.proofs.put.DecimalLaws.{decimal_20}
use Rattle.settings.specs.Dead.{two_rules, shown_line}

module _ (start : List ℕ) (one : ℕ) (middle : List ℕ) (other : ℕ) (end : List ℕ) where
  two_length : length (two_rules start one middle other end) ≡ length start + length (decimal one) + length middle + length (decimal other) + length end
  unfolding two_rules
  two_length = simp length-append

  pub two_short : one < 2 ^ 64 → other < 2 ^ 64 → length (two_rules start one middle other end) ≤ 40 + length start + length middle + length end
  two_short h g = omega (arith, two_length, decimal_20 one h, decimal_20 other g)

pub shown_line-length : (key t : List ℕ) → length (shown_line key t) ≡ length key + length t + 1
unfolding shown_line
shown_line-length key t = simp (length-append, shown-length)

-- no byte is there more often than there are bytes
pub count_most : (c : ℕ) (l : List ℕ) → count_of c l ≤ length l
unfolding count_of
count_most c [] = omega arith
count_most c (b ∷ l) = by (eqb b c) (λ e. rw (e, count_of) (omega (arith, count_most c l))) (λ e. rw (e, count_of) (omega (arith, count_most c l)))
