-- Laws of `find_byte`, the place of a byte from a place on: for the search, and for whoever goes on from there. Assumes nothing.
use Prim.Native.Nat.{ℕ, ◌+◌, ◌-◌, ◌≤◌}
use mathlib.Core.Path.{◌≡◌, ap, ◌∙◌}
use mathlib.Core.List.{List, [], ◌∷◌}
use native.Mathlib.Omega.{arith}
use lib.Dec.{eqb}
use lib.ListN.{length, take, drop, length-drop, drop_of_length-le}
use Rattle.std.proofs.lemmas.List.{drop_min}
use Rattle.laws.proofs.Cases.{by}
use Rattle.laws.proofs.Lists.{tail_whole}
use Rattle.slices.specs.Bytes.{to_byte, place_in, find_byte}

-- a byte is found in as many steps as there are bytes, or in fewer
to_byte_short : (c : ℕ) (l : List ℕ) → to_byte c l ≤ length l
unfolding to_byte
to_byte_short c [] = omega arith
to_byte_short c (b ∷ bs) =
    by (eqb b c) (λ e. rw (e, to_byte) (omega arith)) (λ e. rw (e, to_byte) (omega (arith, to_byte_short c bs)))

module _ (c : ℕ) (s : List ℕ) (i : ℕ) where
  -- past the end it is at the end
  pub place_end : length s ≤ i → length s ≡ find_byte c s i
  unfolding find_byte to_byte
  place_end l = rw (drop_of_length-le s l) (omega arith)

  -- it is found at or after the place, and not past the end
  pub place_within : (place_in s i ≤ find_byte c s i) × (find_byte c s i ≤ length s)
  unfolding find_byte
  place_within = (omega arith, omega (arith, to_byte_short c (drop i s), length-drop i s))

-- what the search promises: the place, and that it lies in the list. It begins at `from` and finds the byte `n` places further on
pub place_found : (c : ℕ) (s : List ℕ) (at : ℕ) {from n : ℕ} → from ≡ place_in s at → n ≡ to_byte c (take (length s - from) (drop from s))
    → (from + n ≡ find_byte c s at) × ((place_in s at ≤ from + n) × (from + n ≤ length s))
unfolding find_byte
place_found c s at {from} {n} e f =
    let same : drop from s ≡ drop at s = rw e (drop_min at s) in
    let g : n ≡ to_byte c (drop at s) = f ∙ ap (to_byte c) (tail_whole s from ∙ same) in
    (rw (e, g), (omega arith, omega (arith, to_byte_short c (drop at s), length-drop at s)))
