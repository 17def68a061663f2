-- Lines one after another, as the code reads a group of them: each is read where the one before it ended, and a refused line passes through all that follow. What the chain gives is what the
-- group's form reads (proofs/chain/ChainLaws.antt).
-- Assumes nothing.
use Rattle.std.specs.Prelude.{ℕ, cond, List, eqb}
use Rattle.lines.specs.Field.{number_field, word_field}
use Rattle.lines.specs.declared.read.Field.{Field}
use Rattle.forms.specs.declared.chain.Lined.{Lined}

-- before the first line
abbrev pub begun : ℕ → Lined
begun at = record { number = 0; line = 0; value = 0; from = at; to = at; next = at }

-- a line of a group
abbrev pub lined_of : ℕ → Field → Lined
lined_of line f = record { number = f.number; line = line; value = f.value; from = f.from; to = f.to; next = f.next }

-- it is read only where those before it were
abbrev pub after : Lined → Lined → Lined
after before next = cond (eqb before.number 0) next before

unfoldable pub number_after : List ℕ → Lined → ℕ → List ℕ → ℕ → ℕ → Lined
number_after s before line key low high = after before (lined_of line (number_field s before.next key low high))

unfoldable pub word_after : List ℕ → Lined → ℕ → List ℕ → List ℕ → Lined
word_after s before line key ws = after before (lined_of line (word_field s before.next key ws))
