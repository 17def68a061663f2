-- What the words behind the program's name ask for: the time and the verdict that the messages of a capture get, and whether they are inspected.
-- Assumes nothing.
use Rattle.std.specs.Prelude.{true, false, cond, List, ℕ, drop, Option, Some, None}
use Rattle.slices.specs.Bytes.{bytes, same, begins}
use Rattle.lines.specs.ReadDecimal.{decimal_of}
use Rattle.lines.specs.declared.value.Number.{Number}
use Rattle.lines.specs.declared.value.Number.TheVariants.{Value, Bad}
use Rattle.hubpackets.specs.declared.asked.Asked.{Asked}

-- before the first word
abbrev pub asked_first : Asked
asked_first = record { at = 0; ok = true; inspect = false }

-- a time, if it is one
abbrev pub asked_at : Asked → Number → Option Asked
asked_at asked (Value at) = Some (record { at = at; ok = asked.ok; inspect = asked.inspect })
asked_at asked Bad = None

-- one word more: `--clock=ok|bad`, `--inspect`, or `--at=` and a decimal of 64 bits; none, if the word is not known
unfoldable pub asked_with : Asked → List ℕ → Option Asked
asked_with asked word =
    cond (same (bytes "--clock=ok") word) (Some (record { at = asked.at; ok = true; inspect = asked.inspect }))
    (cond (same (bytes "--clock=bad") word) (Some (record { at = asked.at; ok = false; inspect = asked.inspect }))
    (cond (same (bytes "--inspect") word) (Some (record { at = asked.at; ok = asked.ok; inspect = true }))
    (cond (begins (bytes "--at=") word) (asked_at asked (decimal_of 0 18446744073709551615 (drop 5 word)))
    None)))
