-- Looking a record up in a table, whatever its records are: `f` at the place of the first that passes a test, else `f` at a newcomer's place `s` with the new
-- record `w`. CONNECT windows and payload trackers are looked up so. Assumes nothing.
use mathlib.Core.Path.{◌≡◌}
use mathlib.Core.Bool.{Bool, true, false, cond}
use mathlib.Core.List.{List}
use Prim.Native.Nat.{ℕ, ◌<◌}
use borrow.Author.Tests.{ltb-true, ltb-false}
use lib.Dec.{ltb}
use lib.ListN.{length, get_or}
use Rattle.laws.proofs.Cases.{choose}
use Rattle.tables.specs.Scan.{find}
use Rattle.tables.proofs.ScanLaws.{find-lt, find_none}

module _ {A D : Type 0} (p : A → Bool) (l : List A) (none : A) (f : ℕ → A → D) (s : ℕ) (w : A) where
  abbrev pub held_or_new : D
  held_or_new = cond (ltb (find p l) (length l)) (f (find p l) (get_or l (find p l) none)) (f s w)

  -- what is true of `f` at a place that passes, and of the newcomer where none passes, is true of the answer
  pub looked_up : (P : D → Type 0) → ((i : ℕ) → i < length l → p (get_or l i none) ≡ true → P (f i (get_or l i none)))
      → (((j : ℕ) → j < length l → p (get_or l j none) ≡ false) → P (f s w)) → P held_or_new
  looked_up P a b =
      choose P (ltb (find p l) (length l))
      (λ e. a (find p l) (ltb-true _ _ e) (find-lt p l none (ltb-true _ _ e)))
      (λ e. b (find_none p l none (ltb-false _ _ e)))
