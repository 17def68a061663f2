-- Hexadecimal text as bytes. Document 01 ("The trace"): "Hex is lower case"; "24 bad hex, an odd count of digits included; 25 hex too long". So 25 is only for an even count of good digits.
use Rattle.std.specs.Prelude.{ℕ, ◌+◌, ◌-◌, ◌*◌, ◌/◌, ◌%◌, Bool, cond, ◌&&◌, ◌||◌, List, [], ◌∷◌, length, eqb, leb, ltb}
use Prim.Native.Char.{code}
use Rattle.std.proofs.lemmas.List.Edits.{sets}
use Rattle.laws.specs.Lists.{every}

-- `0` to `9`, and `a` to `f`
unfoldable pub is_hex : ℕ → Bool
is_hex c = leb (code "0") c && leb c (code "9") || leb (code "a") c && leb c (code "f")

-- the number of a hex digit
abbrev pub hex_value : ℕ → ℕ
hex_value c = cond (ltb c 58) (c - 48) (c - 87)

-- the bytes that pairs of digits spell, the high digit first
unfoldable pub unhex : List ℕ → List ℕ
unhex [] = []
unhex (a ∷ []) = []
unhex (a ∷ (b ∷ l)) = (hex_value a * 16 + hex_value b) ∷ unhex l

-- how many bytes digits spell
abbrev pub hex_count : List ℕ → ℕ
hex_count l = length l / 2

-- 24 unless an even count of hex digits, then 25 if they spell more than `room` bytes, else 0
unfoldable pub hex_refusal : ℕ → List ℕ → ℕ
hex_refusal room l =
    cond (eqb (length l % 2) 0 && every is_hex l) (cond (leb (hex_count l) room) 0 25) 24

-- the buffer `d` after hex was read into it: the bytes at its beginning, all else as it was; untouched where the hex was refused
unfoldable pub hex_into : List ℕ → List ℕ → List ℕ
hex_into d l = cond (eqb (hex_refusal (length d) l) 0) (sets d 0 (unhex l)) d
