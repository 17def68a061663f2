-- Swapping the first bytes of a text one by one. Assumes nothing.
use Rattle.std.proofs.Common.{◌≡◌, ℕ, ◌+◌, min, List, ◌++◌, map, take, drop, length, arith, length-take}
use lib.ListN.{length-map}
use lib.Seq.{sets-eq}
use Rattle.std.proofs.lemmas.List.{take_min}
use Rattle.cut.specs.Swap.{swapped, swap_first}

-- the first `n` swapped, and the others behind them: at most as many as there are
pub swapped_all : (old new n : ℕ) (s : List ℕ) {m : ℕ} → m ≡ min n (length s) → map (swapped old new) (take m s) ++ drop m s ≡ swap_first old new n s
unfolding swap_first
swapped_all old new n s {m} e =
    let t = map (swapped old new) (take n s) in
    let k : length t ≡ min n (length s) = simp (length-map, length-take) in
    let z : 0 + length t ≡ min n (length s) = omega (arith, k) in
    rw (e, take_min n s, sets-eq t s 0 (omega (arith, k)), z)
