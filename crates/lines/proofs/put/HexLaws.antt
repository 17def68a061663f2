-- How hex text grows by one byte, and how long it is. Assumes nothing.
use Prim.Native.Nat.{ℕ, ◌+◌, ◌<◌}
use mathlib.Core.Path.{◌≡◌, refl}
use mathlib.Core.List.{List, [], ◌∷◌, ◌++◌}
use native.Mathlib.Omega.{arith}
use native.Mathlib.Numerals.{add-one}
use lib.ListN.{length, take, get_or}
use lib.Seq.{take-suc}
use Rattle.lines.specs.Hex.{hex_text}

pub hex_length : (s : List ℕ) → length (hex_text s) ≡ length s + length s
unfolding hex_text
hex_length [] = refl
hex_length (b ∷ s) = omega (arith, hex_length s)

hex_append : (s t : List ℕ) → hex_text (s ++ t) ≡ hex_text s ++ hex_text t
unfolding hex_text
hex_append [] t = refl
hex_append (b ∷ s) t = rw (hex_append s t)

pub hex_more : (s : List ℕ) (i : ℕ) → i < length s → hex_text (take (i + 1) s) ≡ hex_text (take i s) ++ hex_text (get_or s i 0 ∷ [])
hex_more s i h = rw (add-one, take-suc s i 0, hex_append)
