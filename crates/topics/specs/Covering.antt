-- Request C-20: does an earlier pattern match every name that a later one matches? A few names of the later pattern, tried with the matcher itself, decide it; that they do stands in Covered.antt.
-- The two flags are the matcher's, `empty_last` and `dollar` (Matching.antt): neither for the port, both for the standard.
-- Assumes nothing.
use Rattle.std.specs.Prelude.{ℕ, zero, suc, ◌-◌, Bool, true, false, cond, not, ◌&&◌, List, [], ◌∷◌, ◌++◌, length, take, replicate, ◌==◌}
use Prim.Native.Char.{code}
use Rattle.laws.specs.Lists.{none}
use Rattle.topics.specs.Matching.{matches_with}
use Rattle.topics.specs.declared.covering.Witness.{Witness}

-- the later pattern matches a topic of at least 1 byte, and the earlier one does not
unfoldable pub only_later : Bool → Bool → List ℕ → List ℕ → List ℕ → Bool
only_later empty_last dollar earlier later topic =
    not (none topic) && matches_with empty_last dollar topic later && not (matches_with empty_last dollar topic earlier)

-- the longest name of a pattern that is tried: a letter for each `+`, and two levels of that letter for the `#`
unfoldable pub sample : ℕ → List ℕ → List ℕ
sample letter [] = []
sample letter (c ∷ p) =
    elim (c == (code "#")) [
      | true ↦ letter ∷ code "/" ∷ letter ∷ []
      | false ↦ cond (c == (code "+")) letter c ∷ sample letter p
    ]

-- a name without its last n bytes
abbrev pub all_but : ℕ → List ℕ → List ℕ
all_but n name = take (length name - n) name

-- a name without its last n - 1 bytes, n - 2 and so on, up to the whole name: the first that passes a test, [] if none does
unfoldable pub first_cut : (List ℕ → Bool) → ℕ → List ℕ → List ℕ
first_cut test zero name = []
first_cut test (suc n) name = elim (test (all_but n name)) [ true ↦ all_but n name | false ↦ first_cut test n name ]

-- the first of five tries with one letter that only the later pattern matches. An accepted pattern has at most 64 bytes
unfoldable pub tried_with : ℕ → Bool → Bool → List ℕ → List ℕ → List ℕ
tried_with letter empty_last dollar earlier later =
    first_cut (only_later empty_last dollar earlier later) 5 (sample letter (take 64 later))

-- the first list that has an element
abbrev pub or_else : List ℕ → List ℕ → List ℕ
or_else [] other = other
or_else (c ∷ l) other = c ∷ l

-- a name that only the later pattern matches, [] where there is none: two letters are tried, since no plain level of the earlier pattern equals both
unfoldable pub witness : Bool → Bool → List ℕ → List ℕ → List ℕ
witness empty_last dollar earlier later =
    or_else (tried_with (code "a") empty_last dollar earlier later) (tried_with (code "b") empty_last dollar earlier later)

-- the earlier pattern matches every name that the later one matches
unfoldable pub covers : Bool → Bool → List ℕ → List ℕ → Bool
covers empty_last dollar earlier later = none (witness empty_last dollar earlier later)

-- a name as it is handed back, zeros after it; its length is 0 where there is none
unfoldable pub as_witness : List ℕ → Witness
as_witness name = record { name = take 128 name ++ replicate (128 - length name) 0; len = length name }
