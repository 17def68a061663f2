-- A recursion that is told how often it may turn, where a thing grows smaller with each turn: any number of turns above its size gives the same. `f k s` is the answer from `s` with `k`
-- turns; `step` says that one turn more gives the same of the same answers to smaller things. Assumes nothing.
use mathlib.Core.Path.{◌≡◌}
use Prim.Native.Nat.{ℕ, zero, suc, ◌<◌}
use native.Mathlib.Omega.{arith}

module _ {S R : Type 0} (size : S → ℕ) (f : ℕ → S → R)
    (step : (k j : ℕ) (s : S) → ((t : S) → size t < size s → f k t ≡ f j t) → f (suc k) s ≡ f (suc j) s) where
  pub fuel : (k j : ℕ) (s : S) → size s < k → size s < j → f k s ≡ f j s
  fuel zero j s h g = absurd (omega arith)
  fuel (suc k) zero s h g = absurd (omega arith)
  fuel (suc k) (suc j) s h g = step k j s (λ t l. fuel k j t (omega arith) (omega arith))
