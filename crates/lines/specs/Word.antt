-- Words to choose from. Document 01 ("The trace") spells a choice as its words with a bar between them, `allow|block`; a word is known by its place in that list, the first at 0.
use Rattle.std.specs.Prelude.{ℕ, true, false, List, [], ◌∷◌, get_or, eqb}
use Prim.Native.Char.{code}

-- the bytes before the first bar
unfoldable pub first_word : List ℕ → List ℕ
first_word [] = []
first_word (c ∷ cs) = elim (eqb c (code "|")) [ true ↦ [] | false ↦ c ∷ first_word cs ]

-- the words after the first bar
unfoldable pub rest_words : List ℕ → List (List ℕ)
rest_words [] = []
rest_words (c ∷ cs) = elim (eqb c (code "|")) [ true ↦ first_word cs ∷ rest_words cs | false ↦ rest_words cs ]

-- the words of a list, in order; there is always one
abbrev pub words_of : List ℕ → List (List ℕ)
words_of ws = first_word ws ∷ rest_words ws

-- the word at place `k`, or nothing where there are not so many words
unfoldable pub word_text : List ℕ → ℕ → List ℕ
word_text ws k = get_or (words_of ws) k []
