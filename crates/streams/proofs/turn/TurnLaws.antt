-- What `turn_of` says, by the machine's view of its two signed numbers: a local holds their bits, and a test compares those. Assumes nothing.
use Prim.Native.Nat.{ℕ}
use mathlib.Core.Path.{◌≡◌, refl, sym, ap, ◌∙◌}
use mathlib.Core.Bool.{Bool, true, false, cond, ◌||◌}
use native.Mathlib.Omega.{arith}
use borrow.Author.Tests.{ltb-true, ne_eqb}
use lib.Dec.{eqb}
use lib.IntN.{ℤ, pos, negsuc}
use lib.Signed.{lt_z}
use mir.Syntax.{w32, w64}
use mir.Val.{SFits, of_z, to_z}
use mir.ValLaws.{to_z-of_z}
use Rattle.io.specs.Counts.{clamp_len}
use Rattle.streams.specs.Turns.{missed_of, turn_of, Fits}
use Rattle.streams.specs.declared.turn.Turn.{Turn}
use Rattle.streams.specs.declared.turn.Turn.TheVariants.{Moved, Again, Failed}

-- a number whose bits are those of `n` is the number that these bits spell
spelled : (z : ℤ) (n : ℕ) → SFits w32 z → of_z w32 z ≡ n → z ≡ to_z w32 n
spelled z n f e = sym (to_z-of_z w32 z f) ∙ ap (to_z w32) e

pub missed_interrupted : (z : ℤ) → SFits w32 z → of_z w32 z ≡ 4 → Again ≡ missed_of z
unfolding missed_of
missed_interrupted z f e = rw (spelled z 4 f e)

pub missed_blocked : (z : ℤ) → SFits w32 z → of_z w32 z ≡ 11 → Again ≡ missed_of z
unfolding missed_of
missed_blocked z f e = rw (spelled z 11 f e)

missed_other : (z : ℤ) → (of_z w32 z ≡ 4 → ⊥) → (of_z w32 z ≡ 11 → ⊥) → Failed z ≡ missed_of z
unfolding missed_of
missed_other (pos e) i b = rw (ne_eqb e 4 i, ne_eqb e 11 b)
missed_other (negsuc e) i b = refl

pub missed_failed : (z : ℤ) → SFits w32 z → (of_z w32 z ≡ 4 → ⊥) → (of_z w32 z ≡ 11 → ⊥) → Failed (to_z w32 (of_z w32 z)) ≡ missed_of z
missed_failed z f i b = ap Failed (to_z-of_z w32 z f) ∙ missed_other z i b

came_missed_of : (z error : ℤ) (n : ℕ) (t : Turn) → lt_z z (pos 0) ≡ true → t ≡ missed_of error → t ≡ turn_of z error n
unfolding turn_of
came_missed_of (pos k) error n t e m = absurd (omega (arith, ltb-true k 0 e))
came_missed_of (negsuc k) error n t e m = m

-- a negative answer
pub came_missed : (z error : ℤ) (n : ℕ) (t : Turn) → SFits w64 z → SFits w32 error
    → lt_z (to_z w64 (of_z w64 z)) (pos 0) ≡ true → t ≡ missed_of (to_z w32 (of_z w32 error)) → t ≡ turn_of z error n
came_missed z error n t f g e m = came_missed_of z error n t (rw (to_z-of_z w64 z f) at e) (rw (to_z-of_z w32 error g) at m)

came_moved_of : (z error : ℤ) (n k : ℕ) → lt_z z (pos 0) ≡ false → k ≡ clamp_len z n → Moved k ≡ turn_of z error n
unfolding turn_of
came_moved_of (pos j) error n k e m = ap Moved m
came_moved_of (negsuc j) error n k e m = cc e

-- any other answer
pub came_moved : (z error : ℤ) (n k : ℕ) → SFits w64 z
    → lt_z (to_z w64 (of_z w64 z)) (pos 0) ≡ false → k ≡ clamp_len (to_z w64 (of_z w64 z)) n → Moved k ≡ turn_of z error n
came_moved z error n k f e m = came_moved_of z error n k (rw (to_z-of_z w64 z f) at e) (rw (to_z-of_z w64 z f) at m)

chosen_fits : (b : Bool) (error : ℤ) (n : ℕ) → Fits (cond b Again (Failed error)) n
chosen_fits true error n = tt
chosen_fits false error n = tt

missed_fits : (error : ℤ) (n : ℕ) → Fits (missed_of error) n
unfolding missed_of
missed_fits (pos e) n = chosen_fits (eqb e 4 || eqb e 11) (pos e) n
missed_fits (negsuc e) n = tt

-- a call moves no more bytes than it was handed
pub came_fits : (z error : ℤ) (m n : ℕ) → m ≡ n → Fits (turn_of z error m) n
unfolding turn_of
came_fits (pos k) error m n e = omega (arith, e)
came_fits (negsuc k) error m n e = missed_fits error n
