-- What the word behind the program's name asks for: a text in one of the two forms, its rules that can never speak, two of its rules, or nothing that the program knows.
-- Assumes nothing.
use Rattle.std.specs.Prelude.{cond, List, ℕ, ◌+◌, eqb, length, take, drop}
use Rattle.slices.specs.Bytes.{bytes, same, begins, find_byte}
use Rattle.lines.specs.ReadDecimal.{decimal_of}
use Rattle.lines.specs.declared.value.Number.{Number}
use Rattle.lines.specs.declared.value.Number.TheVariants.{Value, Bad}
use Rattle.hubsettings.specs.declared.asked.Asked.{Asked}
use Rattle.hubsettings.specs.declared.asked.Asked.TheVariants.{To, Dead, Pair, Unknown}

-- two rules, where both are numbers
unfoldable pub asked_pair : Number → Number → Asked
asked_pair (Value a) (Value b) = Pair a b
asked_pair (Value a) Bad = Unknown
asked_pair Bad earlier = Unknown

-- two decimals of at most ten digits with a comma between them; 44 is the comma
unfoldable pub asked_numbers : List ℕ → Asked
asked_numbers s =
    let at = find_byte 44 s 0 in
    cond (eqb at (length s)) Unknown (asked_pair (decimal_of 0 9999999999 (take at s)) (decimal_of 0 9999999999 (drop (at + 1) s)))

unfoldable pub asked_by : List ℕ → Asked
asked_by word =
    cond (same (bytes "--to=1") word) (To 1)
    (cond (same (bytes "--to=2") word) (To 2)
    (cond (same (bytes "--dead") word) Dead
    (cond (begins (bytes "--dead=") word) (asked_numbers (drop 7 word))
    Unknown)))
