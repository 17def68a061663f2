-- The lines before the rules, as the code reads them one after another. That they are the form's is in proofs/head/HeadLaws.antt.
-- Assumes nothing.
use Rattle.std.specs.Prelude.{cond, List, ℕ, eqb}
use Rattle.slices.specs.Bytes.{bytes}
use Rattle.forms.specs.Chain.{begun, after, word_after}
use Rattle.forms.specs.declared.chain.Lined.{Lined}

-- `form=1|2`: another word is 29
abbrev pub numbered29 : Lined → Lined
numbered29 f = record { number = 29; line = f.line; value = f.value; from = f.from; to = f.to; next = f.next }

unfoldable pub form_line : List ℕ → Lined
form_line s =
    let f = word_after s (begun 0) 0 (bytes "form=") (bytes "1|2") in
    cond (eqb f.number 23) (numbered29 f) f

-- `match=`, by the place of the form among the words and after the line before it: the second form has it, and is a line longer; in the first one the line before stays the last, with the value that
-- means port
abbrev pub as_port : Lined → Lined
as_port b = record { number = b.number; line = b.line; value = 0; from = b.from; to = b.to; next = b.next }

unfoldable pub match_line : List ℕ → ℕ → Lined → Lined
match_line s place before = cond (eqb place 1) (word_after s before 2 (bytes "match=") (bytes "port|standard")) (after before (as_port before))

unfoldable pub lines_more : ℕ → ℕ
lines_more place = cond (eqb place 1) 1 0
