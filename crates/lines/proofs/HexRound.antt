-- Hex there and back (document 01, "The trace": lower case, two digits a byte, so bytes have one text): what is written of bytes is read as them, and what is read as bytes is what is written of
-- them. Assumes nothing.
use Prim.Native.Nat.{ℕ, zero, suc, ◌+◌, ◌-◌, ◌*◌, ◌/◌, ◌%◌, ◌≤◌, ◌<◌}
use mathlib.Core.Path.{◌≡◌, refl, sym}
use mathlib.Core.Bool.{true, or-true}
use mathlib.Core.List.{List, [], ◌∷◌}
use native.Mathlib.Omega.{arith}
use lib.ListN.{length, get_or}
use borrow.Author.Tests.{le-leb, lt-ltb, le-ltb}
use Rattle.laws.specs.Lists.{every}
use Rattle.laws.proofs.Cases.{by_le}
use Rattle.laws.proofs.Every.{every_both}
use Rattle.lines.specs.Hex.{hex_digit, hex_text}
use Rattle.lines.specs.ReadHex.{is_hex, hex_value, hex_count, hex_refusal, unhex}
use Rattle.lines.proofs.put.HexLaws.{hex_length}
use Rattle.lines.proofs.value.HexLaws.{hex_kinds, hex_taken, hex_fits}

-- a number below 16 has a hex digit, and is its value
digit_back : (n : ℕ) → n < 16 → (is_hex (hex_digit n) ≡ true) × (hex_value (hex_digit n) ≡ n)
unfolding is_hex
digit_back n h =
    by_le 10 n
    (λ m. (rw (le-ltb n 10 m, le-leb 97 (87 + n) (omega arith), le-leb (87 + n) 102 (omega arith), or-true), rw (le-ltb n 10 m, le-ltb (87 + n) 58 (omega arith)) (omega arith)))
    (λ l. (rw (lt-ltb n 10 l, le-leb 48 (48 + n) (omega arith), le-leb (48 + n) 57 (omega arith)), rw (lt-ltb n 10 l, lt-ltb (48 + n) 58 (omega arith)) (omega arith)))

-- a hex digit has a value below 16, and is its digit
value_back : (c : ℕ) → is_hex c ≡ true → (hex_value c < 16) × (hex_digit (hex_value c) ≡ c)
value_back c e =
    hex_kinds c e
    (λ a b. rw (lt-ltb c 58 (omega arith)) (omega arith, rw (lt-ltb (c - 48) 10 (omega arith)) (omega arith)))
    (λ a b. rw (le-ltb c 58 (omega arith)) (omega arith, rw (le-ltb (c - 87) 10 (omega arith)) (omega arith)))

-- the text of bytes is hex digits
text_hex : (s : List ℕ) → ((i : ℕ) → get_or s i 0 < 256) → every is_hex (hex_text s) ≡ true
unfolding every hex_text
text_hex [] h = refl
text_hex (b ∷ s) h =
    let g : b < 256 = h zero in
    let u : is_hex (hex_digit (b / 16)) ≡ true = (digit_back (b / 16) (omega arith)).0 in
    let v : is_hex (hex_digit (b % 16)) ≡ true = (digit_back (b % 16) (omega arith)).0 in
    rw (u, every, v, every) (text_hex s (λ i. h (suc i)))

-- what is written of bytes is taken, where there is room for them
pub hex_read : (room : ℕ) (s : List ℕ) → ((i : ℕ) → get_or s i 0 < 256) → length s ≤ room → hex_refusal room (hex_text s) ≡ 0
hex_read room s h r =
    let l = hex_length s in
    sym (hex_fits room (hex_text s) (omega arith) (text_hex s h) (omega arith))

-- and is read as them
pub hex_back : (s : List ℕ) → ((i : ℕ) → get_or s i 0 < 256) → unhex (hex_text s) ≡ s
unfolding unhex hex_text
hex_back [] h = refl
hex_back (b ∷ s) h =
    let g : b < 256 = h zero in
    let u : hex_value (hex_digit (b / 16)) ≡ b / 16 = (digit_back (b / 16) (omega arith)).1 in
    let v : hex_value (hex_digit (b % 16)) ≡ b % 16 = (digit_back (b % 16) (omega arith)).1 in
    let q : b / 16 * 16 + b % 16 ≡ b = omega arith in
    rw (u, v, q, hex_back s (λ i. h (suc i)))

-- pairs of hex digits are what is written of the bytes that they spell
pairs_back : (l : List ℕ) → length l % 2 ≡ 0 → every is_hex l ≡ true → hex_text (unhex l) ≡ l
unfolding unhex hex_text
pairs_back [] z e = refl
pairs_back (a ∷ []) z e = absurd (omega arith)
pairs_back (a ∷ (b ∷ l)) z e =
    let f = every_both is_hex a (b ∷ l) e in
    let g = every_both is_hex b l f.1 in
    let u = value_back a f.0 in
    let v = value_back b g.0 in
    let p : (hex_value a * 16 + hex_value b) / 16 ≡ hex_value a = omega arith in
    let q : (hex_value a * 16 + hex_value b) % 16 ≡ hex_value b = omega arith in
    rw (p, q, u.1, v.1, pairs_back l (omega arith) g.1)

-- what is read as bytes is what is written of them
pub hex_unique : (room : ℕ) (l : List ℕ) → hex_refusal room l ≡ 0 → hex_text (unhex l) ≡ l
hex_unique room l e = let t = hex_taken room l e in pairs_back l t.0 t.1

-- there is a byte for each pair of digits
pub unhex-length : (l : List ℕ) → length (unhex l) ≡ hex_count l
unfolding unhex
unhex-length [] = refl
unhex-length (a ∷ []) = refl
unhex-length (a ∷ (b ∷ l)) = let h = unhex-length l in omega arith
