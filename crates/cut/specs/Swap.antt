-- One byte for another among the first of a text.
use Rattle.std.specs.Prelude.{ℕ, cond, List, map, take, eqb}
use Rattle.std.proofs.lemmas.List.Edits.{sets}

-- `new` where `b` is `old`
unfoldable pub swapped : ℕ → ℕ → ℕ → ℕ
swapped old new b = cond (eqb b old) new b

-- that of each of the first `n`, in their places
unfoldable pub swap_first : ℕ → ℕ → ℕ → List ℕ → List ℕ
swap_first old new n s = sets s 0 (map (swapped old new) (take n s))
