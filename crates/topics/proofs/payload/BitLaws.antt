-- Words of k bits: the whole product of two, and a word turned left by two shifts.
-- Assumes nothing.
use Rattle.std.proofs.Common.{◌∙◌, ◌≡◌, ℕ, ◌+◌, ◌-◌, ◌*◌, ◌/◌, ◌%◌, ◌^◌, ◌<◌, lt_of_le_of_lt, add-zero, le_of_lt, add_comm, mul-le-mul_left, mul-lt-mul_of_pos_right, arith, pow_pos, pow-add, shr_lt}
use native.Mathlib.Nat.{mul-mod_left}
use lib.Bits.{bit_or, or_shifted}
use lib.Pow.{mod-pow-add, shl-shr}
use mir.Syntax.{w32}
use Rattle.std.specs.Int.{rotate_left}
use Rattle.std.proofs.Math.Nat.{mod-eq_of_lt}
use Rattle.topics.specs.Payload.{rotl}

-- the product of two numbers of k bits has at most k + k
pub below : (k : ℕ) {a b : ℕ} → a < 2 ^ k → b < 2 ^ k → a * b < 2 ^ (k + k)
below k ha hb = rw (pow-add 2 k k) (lt_of_le_of_lt (mul-le-mul_left _ (le_of_lt hb)) (mul-lt-mul_of_pos_right ha (pow_pos k)))

-- of a word of j + k bits, shifted left by k, the low j bits are left, above k zeros
low_bits : (x j k : ℕ) → (x * 2 ^ k) % 2 ^ (j + k) ≡ x % 2 ^ j * 2 ^ k
low_bits x j k = simp (mod-pow-add (x * 2 ^ k) j k, shl-shr, mul-mod_left, add-zero)

-- so the two shifts of a word share no bit, and "or" is the sum
or_sum : (x j k : ℕ) → x < 2 ^ (j + k) → bit_or ((x * 2 ^ k) % 2 ^ (j + k)) (x / 2 ^ j) ≡ (x * 2 ^ k) % 2 ^ (j + k) + x / 2 ^ j
or_sum x j k h = rw (low_bits x j k) (or_shifted (x % 2 ^ j) k (x / 2 ^ j) (shr_lt k j (rw (add_comm k j) h)))

-- a word turned left by k bits
pub turned : (x k : ℕ) → k < 32 → x < 2 ^ 32 → bit_or ((x * 2 ^ k) % 2 ^ 32) (x / 2 ^ (32 - k)) ≡ rotl k x
turned x k l h = let whole : 32 - k + k ≡ 32 = omega arith in rw whole at (or_sum x (32 - k) k (rw whole h))

-- what `x.rotate_left(k)` answered
pub rotated : (k : ℕ) {r x : ℕ} → 0 < k → k < 32 → x < 2 ^ 32 → r ≡ rotate_left w32 x k → r ≡ rotl k x
rotated k {r} {x} z l h e =
    let a : k % 32 ≡ k = mod-eq_of_lt l in
    let b : (32 - k) % 32 ≡ 32 - k = mod-eq_of_lt (omega arith) in
    e ∙ rw (a, b) (turned x k l h)
