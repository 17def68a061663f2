-- A text as a person reads it, written by a loop byte by byte: one byte more (`shown_turn`), and all of them (`shown_done`). Assumes nothing.
use Prim.Native.Nat.{ℕ, ◌+◌, ◌≤◌, ◌<◌}
use mathlib.Core.Path.{◌≡◌, refl}
use mathlib.Core.Bool.{Bool}
use mathlib.Core.List.{List, [], ◌∷◌, ◌++◌, map}
use native.Mathlib.Numerals.{add-one}
use lib.ListN.{length, take, get_or}
use lib.Seq.{take-suc, take_all}
use Rattle.lines.specs.Wrote.{Wrote}
use Rattle.lines.proofs.put.WroteLaws.{wrote_then}
use Rattle.topics.specs.Shown.{readable, shown_byte, shown}

map-append : (f : ℕ → ℕ) (a b : List ℕ) → map f (a ++ b) ≡ map f a ++ map f b
map-append f [] b = refl
map-append f (x ∷ a) b = rw (map-append f a b)

shown_more : (whole : Bool) (s : List ℕ) (i : ℕ) → i < length s
    → map (shown_byte whole) (take (i + 1) s) ≡ map (shown_byte whole) (take i s) ++ (shown_byte whole (get_or s i 0) ∷ [])
shown_more whole s i h = rw (add-one, take-suc s i 0, map-append)

-- it stands at place `i` of `s` and at place `p` of the buffer
module _ {d e : List ℕ} {at p : ℕ} (whole : Bool) (s : List ℕ) (i : ℕ) (w : Wrote d e at (map (shown_byte whole) (take i s)) p) where
  pub shown_turn : {f : List ℕ} {b r : ℕ} → i < length s → b ≡ shown_byte whole (get_or s i 0) → Wrote e f p (b ∷ []) r
      → Wrote d f at (map (shown_byte whole) (take (i + 1) s)) r
  shown_turn h q v = rw (shown_more whole s i h, ← q) (wrote_then w v)

  pub shown_done : length s ≤ i → whole ≡ readable s → Wrote d e at (shown s) p
  unfolding shown
  shown_done h q = rw (← q) (rw (take_all i s h) at w)
