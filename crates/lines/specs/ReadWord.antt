-- A word as its place in a list of words. Document 01 ("The trace") spells a choice as `allow|block`; specs/Word.antt takes that apart.
use Rattle.std.specs.Prelude.{ℕ, suc, Bool, true, false, cond, ◌&&◌, List, [], ◌∷◌, length, eqb, ltb}
use Rattle.slices.specs.Bytes.{same}
use Rattle.lines.specs.declared.value.Number.{Number}
use Rattle.lines.specs.declared.value.Number.TheVariants.{Value, Bad}
use Rattle.lines.specs.Word.{words_of}

-- the place of the first word that `l` is, or the count of words where it is none
unfoldable pub word_index : List (List ℕ) → List ℕ → ℕ
word_index [] l = 0
word_index (w ∷ ws) l = elim (same w l) [ true ↦ 0 | false ↦ suc (word_index ws l) ]

-- the place of the word `l` in the list `ws`, where it is one of them
unfoldable pub word_of : List ℕ → List ℕ → Number
word_of ws l =
    cond (ltb (word_index (words_of ws) l) (length (words_of ws))) (Value (word_index (words_of ws) l)) Bad

-- no word stands in the list twice
unfoldable pub different : List (List ℕ) → Bool
different [] = true
different (w ∷ ws) = eqb (word_index ws w) (length ws) && different ws
