-- What one line of a text gives. Document 01 ("The trace"), "per line, in this order": 26 no LF before the end, 21 wrong key, 22 bad number or range, 23 bad word, 24 bad hex, 25 hex too long.
-- A key is right if the line begins with exactly the key and its `=`; the value is the rest of the line. One definition for each kind of field, all on top of `line_at`, which decides 26 and 21.
use Rattle.std.specs.Prelude.{ℕ, ◌+◌, ◌≤◌, cond, List, length, eqb, leb}
use Rattle.slices.specs.Bytes.{place_in, begins}
use Rattle.lines.specs.declared.held.Span.{Span}
use Rattle.lines.specs.declared.read.Field.{Field}
use Rattle.lines.specs.declared.value.Number.{Number}
use Rattle.lines.specs.declared.value.Number.TheVariants.{Value, Bad}
use Rattle.lines.specs.Span.{span_of, part}
use Rattle.lines.specs.ReadDecimal.{decimal_of}
use Rattle.lines.specs.ReadHex.{hex_count, hex_refusal, hex_into}
use Rattle.lines.specs.ReadWord.{word_of}

-- a line refused: nothing was read, and every place is where the line begins
abbrev pub refused : ℕ → ℕ → Field
refused number at = record { number = number; value = 0; from = at; to = at; next = at }

-- a line read: the number that its value spells, with its places
abbrev pub read : Field → ℕ → Field
read line v = record { number = 0; value = v; from = line.from; to = line.to; next = line.next }

-- the answer lies in its text
pub record Within (s : List ℕ) (f : Field) : Type 0 where
  pub ordered : f.from ≤ f.to
  pub inside : f.to ≤ length s
  pub after : f.next ≤ length s

-- a line with its key: 26 if it is not whole, 21 if it does not begin with the key; else its value is what follows the key, up to the LF
unfoldable pub keyed : List ℕ → List ℕ → Span → Field
keyed s key line =
    cond line.whole
    (cond (begins key (part s line.from line.to))
    (record { number = 0; value = 0; from = line.from + length key; to = line.to; next = line.to + 1 })
    (refused 21 line.from))
    (refused 26 line.from)

-- the line at `at` with its key
unfoldable pub line_at : List ℕ → ℕ → List ℕ → Field
line_at s at key = keyed s key (span_of s at)

-- the bytes of a line's value
abbrev pub value_of : List ℕ → Field → List ℕ
value_of s f = part s f.from f.to

-- a line that was refused stays so; one that was read is answered by what its value gives
abbrev pub on_line : Field → Field → Field
on_line line answer = cond (eqb line.number 0) answer line

-- a value that spells a number, or is refused by `number`
unfoldable pub answered : Field → ℕ → ℕ → Number → Field
answered line at number (Value v) = read line v
answered line at number Bad = refused number at

-- the line at `at` as a number in low..high: 22 where its value is none
unfoldable pub number_field : List ℕ → ℕ → List ℕ → ℕ → ℕ → Field
number_field s at key low high =
    let line = line_at s at key in
    on_line line (answered line (place_in s at) 22 (decimal_of low high (value_of s line)))

-- the line at `at` as one of the words `ws`: 23 where its value is none
unfoldable pub word_field : List ℕ → ℕ → List ℕ → List ℕ → Field
word_field s at key ws =
    let line = line_at s at key in
    on_line line (answered line (place_in s at) 23 (word_of ws (value_of s line)))

-- a value that spells bytes, of which there is a count, or is refused by `number`
abbrev pub spelled_bytes : Field → ℕ → ℕ → ℕ → Field
spelled_bytes line at number count = cond (eqb number 0) (read line count) (refused number at)

-- the line at `at` as hex of at most `room` bytes: 24 or 25 where its value is none
unfoldable pub hex_field : List ℕ → ℕ → List ℕ → ℕ → Field
hex_field s at key room =
    let line = line_at s at key in
    on_line line (spelled_bytes line (place_in s at) (hex_refusal room (value_of s line)) (hex_count (value_of s line)))

-- the buffer `d` after the hex of the line at `at` was read into it; untouched where the line was refused
unfoldable pub hex_kept : List ℕ → ℕ → List ℕ → List ℕ → List ℕ
hex_kept s at key d =
    let line = line_at s at key in
    cond (eqb line.number 0) (hex_into d (value_of s line)) d

-- the test at the end of a text: 0 at its end, 21 where one line more stands there, 26 where that line has no LF
unfoldable pub text_end : List ℕ → ℕ → ℕ
text_end s at = cond (leb (length s) at) 0 (cond (span_of s at).whole 21 26)
