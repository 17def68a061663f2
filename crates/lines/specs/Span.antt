-- Where a line ends. Document 01 ("The trace"): lines are "each ended by one LF"; one that the text's end cuts off is not whole. A place past the text's end counts as its end.
use Rattle.std.specs.Prelude.{ℕ, ◌-◌, List, length, take, drop, ltb}
use Prim.Native.Char.{code}
use Rattle.slices.specs.Bytes.{place_in, find_byte}
use Rattle.lines.specs.declared.held.Span.{Span}

-- the line at `at`: from there to its LF, or to the text's end, and whether the LF is there
unfoldable pub span_of : List ℕ → ℕ → Span
span_of s at =
    record { whole = ltb (find_byte (code "\n") s at) (length s); from = place_in s at; to = find_byte (code "\n") s at }

-- the bytes from `from` up to `to`
abbrev pub part : List ℕ → ℕ → ℕ → List ℕ
part s from to = take (to - from) (drop from s)
