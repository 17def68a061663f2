-- Passing the fields of a line one by one. Assumes nothing.
use Prim.Native.Nat.{ℕ, zero, suc, ◌+◌, ◌-◌, ◌<◌}
use mathlib.Core.Path.{◌≡◌}
use mathlib.Core.List.{List}
use lib.ListN.{drop}
use native.Mathlib.Omega.{arith}
use native.Mathlib.Numerals.{sub-one}
use Rattle.slices.specs.Bytes.{find_byte}
use Rattle.cut.specs.Args.{rest_of}

-- with a field passed there is one less to pass
pub rest_turn : (k : ℕ) (q : List ℕ) → 0 < k → rest_of (k - 1) (drop (find_byte 32 q 0 + 1) q) ≡ rest_of k q
unfolding rest_of
rest_turn zero q h = absurd (omega arith)
rest_turn (suc k) q h = rw sub-one

-- with none to pass all is left
pub rest_end : (k : ℕ) (q : List ℕ) → k ≡ 0 → rest_of k q ≡ q
unfolding rest_of
rest_end k q e = rw e
