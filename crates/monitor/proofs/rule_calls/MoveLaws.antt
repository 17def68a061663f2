-- The rules after a removed one, moved a place up, and what is left. Assumes nothing.
use mathlib.Core.List.{List, ◌∷◌, ◌++◌}
use mathlib.Core.Path.{◌≡◌, ap}
use Prim.Native.Nat.{ℕ, suc, ◌+◌, ◌-◌, ◌≤◌, ◌<◌}
use native.Mathlib.Omega.{arith}
use lib.ListN.{length, take, drop, get_or, set, length-drop}
use lib.Seq.{paste, length_paste_head, drop-cons, set_at}

-- the elements after a place, `i` of them moved up
module _ {A : Type 0} (l : List A) (at i : ℕ) where
  -- all of the first `n`, and a new one behind them
  pub moved_done : {n : ℕ} (x : A) → i ≡ n - 1 - at → at < n → n ≤ length l
      → set (paste l at (drop (at + 1) l) i) (at + i) x ≡ take at l ++ take (n - 1 - at) (drop (at + 1) l) ++ (x ∷ drop n l)
  moved_done {n} x e h k =
      let g : n ≡ suc (at + i) = omega arith in
      let z : drop n l ≡ drop (suc (at + i)) l = ap (λ (j : ℕ). drop j l) g in
      rw (← e, z, drop-cons l (at + i) x (omega arith))
      (set_at (take at l ++ take i (drop (at + 1) l)) (get_or l (at + i) x) (drop (suc (at + i)) l) x (at + i)
      (length_paste_head l at (drop (at + 1) l) i (omega arith) (omega (arith, length-drop (at + 1) l))))
