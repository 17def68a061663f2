-- A store on either side of its test. Assumes nothing.
use mathlib.Core.List.{List}
use Prim.Native.Nat.{ℕ}
use lib.Dec.{ltb}
use lib.ListN.{set}
use Rattle.laws.proofs.Cases.{whichever}
use Rattle.monitor.specs.Inspect.{stored_at}

-- what is true of a table with a record stored and without it
pub stored_or_not : {A : Type 0} (P : List A → Type 0) (n : ℕ) (l : List A) (at : ℕ) (x : A) → P l → P (set l at x) → P (stored_at n l at x)
stored_or_not P n l at x p q = whichever P (ltb at n) q p
