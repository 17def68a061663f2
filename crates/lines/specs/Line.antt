-- Whole lines: a key with its `=`, a value, one LF. Document 01 ("The trace"): "`key=value` lines in fixed order, each ended by one LF".
use Rattle.std.specs.Prelude.{ℕ, ◌+◌, ◌/◌, ◌%◌, min, Bool, true, false, List, [], ◌∷◌, ◌++◌}
use Rattle.slices.specs.Bytes.{bytes}
use Rattle.lines.specs.Decimal.{decimal}
use Rattle.lines.specs.Hex.{hex_text}
use Rattle.lines.specs.Word.{word_text}

-- a flag is `1` where it is on, else `0`
abbrev pub flag_text : Bool → List ℕ
flag_text true = bytes "1"
flag_text false = bytes "0"

-- a line whose value is a number
unfoldable pub number_line : List ℕ → ℕ → List ℕ
number_line key n = key ++ decimal n ++ bytes "\n"

-- a line whose value is bytes in hex
unfoldable pub hex_line : List ℕ → List ℕ → List ℕ
hex_line key s = key ++ hex_text s ++ bytes "\n"

-- a line whose value is a flag
unfoldable pub flag_line : List ℕ → Bool → List ℕ
flag_line key on = key ++ flag_text on ++ bytes "\n"

-- a line whose value is one word of a list
unfoldable pub word_line : List ℕ → List ℕ → ℕ → List ℕ
word_line key words k = key ++ word_text words k ++ bytes "\n"

-- the six digits of a number below a million
abbrev pub six_digits : ℕ → List ℕ
six_digits n =
    (48 + n / 100000 % 10) ∷ (48 + n / 10000 % 10) ∷ (48 + n / 1000 % 10) ∷ (48 + n / 100 % 10) ∷ (48 + n / 10 % 10) ∷ (48 + n % 10) ∷ []

-- a line whose value is a time in microseconds, as seconds with six digits after the point
unfoldable pub seconds_line : List ℕ → ℕ → List ℕ
seconds_line key us = key ++ decimal (us / 1000000) ++ bytes "." ++ six_digits (us % 1000000) ++ bytes "\n"

-- a length as the code hands it back: the largest 64-bit number where it is larger
abbrev pub capped : ℕ → ℕ
capped n = min n 18446744073709551615
