-- A line `NAME ARG..` as its parts, for the programs of the gate. A line that has fewer parts than are asked for goes on with empty ones.
use Prim.Native.Char.{code}
use Rattle.std.specs.Prelude.{ℕ, suc, zero, ◌+◌, min, Bool, true, false, cond, ◌&&◌, List, [], length, take, drop, eqb, ltb}
use Rattle.slices.specs.Bytes.{bytes, find_byte}
use Rattle.lines.specs.declared.value.Number.{Number}
use Rattle.lines.specs.declared.value.Number.TheVariants.{Value, Bad}
use Rattle.lines.specs.ReadDecimal.{decimal_of}
use Rattle.lines.specs.ReadHex.{hex_refusal, hex_count}
use Rattle.lines.specs.ReadWord.{word_of}
use Rattle.cut.specs.declared.args.Bytes.{Bytes}

-- what stands after the first `k` fields, each ended by a blank
unfoldable pub rest_of : ℕ → List ℕ → List ℕ
rest_of zero q = q
rest_of (suc k) q = rest_of k (drop (find_byte (code " ") q 0 + 1) q)

-- the field at place `k`
unfoldable pub field_of : ℕ → List ℕ → List ℕ
field_of k q = take (find_byte (code " ") (rest_of k q) 0) (rest_of k q)

-- a number was spelled
abbrev pub spelled : Number → Bool
spelled (Value n) = true
spelled Bad = false

-- the number that was spelled, 0 where none was
abbrev pub spelled_or0 : Number → ℕ
spelled_or0 (Value n) = n
spelled_or0 Bad = 0

-- `s` is one of `words`, which has a bar between them
unfoldable pub is_one_of : List ℕ → List ℕ → Bool
is_one_of words s = spelled (word_of words s)

-- the argument at place `k`: a field, and `-` for nothing
unfoldable pub arg_of : ℕ → List ℕ → List ℕ
arg_of k q = cond (is_one_of (bytes "-") (field_of k q)) [] (field_of k q)

-- the number that it spells, of 64 bits
unfoldable pub number_in : ℕ → List ℕ → ℕ
number_in k q = spelled_or0 (decimal_of 0 18446744073709551615 (arg_of k q))

-- it is 1
abbrev pub flag_of : ℕ → List ℕ → Bool
flag_of k q = eqb (number_in k q) 1

-- the number, at most `most`
abbrev pub size_of : ℕ → List ℕ → ℕ → ℕ
size_of k q most = min (number_in k q) most

-- it spells at most `room` bytes in hex
abbrev pub is_bytes : ℕ → List ℕ → ℕ → Bool
is_bytes k q room = eqb (hex_refusal room (arg_of k q)) 0

-- those bytes, with a field there; none where it spells no such bytes
unfoldable pub bytes_of : ℕ → List ℕ → ℕ → Bytes
bytes_of k q room =
    record {
      good = is_bytes k q room && ltb 0 (length (field_of k q));
      count = cond (is_bytes k q room) (hex_count (arg_of k q)) 0;
    }
