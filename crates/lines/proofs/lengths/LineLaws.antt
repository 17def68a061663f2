-- How long each line is: its key, its value and one LF. Assumes nothing.
use Prim.Native.Nat.{ℕ, ◌+◌, ◌/◌}
use mathlib.Core.Path.{◌≡◌}
use mathlib.Core.Bool.{Bool, true, false}
use mathlib.Core.List.{List}
use native.Mathlib.Omega.{arith}
use lib.ListN.{length, length-append}
use Rattle.lines.specs.Decimal.{decimal}
use Rattle.lines.specs.Word.{word_text}
use Rattle.lines.specs.Line.{number_line, hex_line, flag_line, word_line, seconds_line}
use Rattle.lines.proofs.put.HexLaws.{hex_length}

pub number_line-length : (key : List ℕ) (n : ℕ) → length (number_line key n) ≡ length key + length (decimal n) + 1
unfolding number_line
number_line-length key n = simp length-append

pub hex_line-length : (key s : List ℕ) → length (hex_line key s) ≡ length key + (length s + length s) + 1
unfolding hex_line
hex_line-length key s = simp (length-append, hex_length)

pub flag_line-length : (key : List ℕ) (on : Bool) → length (flag_line key on) ≡ length key + 1 + 1
unfolding flag_line
flag_line-length key true = simp length-append
flag_line-length key false = simp length-append

pub word_line-length : (key words : List ℕ) (k : ℕ) → length (word_line key words k) ≡ length key + length (word_text words k) + 1
unfolding word_line
word_line-length key words k = simp length-append

-- the point, its six digits and one LF
pub seconds_line-length : (key : List ℕ) (us : ℕ) → length (seconds_line key us) ≡ length key + length (decimal (us / 1000000)) + 8
unfolding seconds_line
seconds_line-length key us = simp length-append (omega arith)
