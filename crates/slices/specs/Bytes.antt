-- What is asked of bytes. Definitions spell them as document 01 does, `bytes "at="`, and the code as byte strings, `b"at="`.
-- Assumes nothing.
use Rattle.std.specs.Prelude.{Bool, true, false, cond, ◌&&◌, List, [], ◌∷◌, ℕ, suc, ◌+◌, min, eqb, length, drop}
use Prim.Native.Char.{code}
use Prim.Native.String.{String}
use Prim.Native.String as S

-- the codes of a text's characters, in order
abbrev pub bytes : String → List ℕ
bytes S.[] = []
bytes (S.◌∷◌ c s) = code c ∷ bytes s

-- equal lists of bytes
unfoldable pub same : List ℕ → List ℕ → Bool
same [] [] = true
same [] (b ∷ bs) = false
same (a ∷ as') [] = false
same (a ∷ as') (b ∷ bs) = eqb a b && same as' bs

-- `s` begins with exactly the bytes of `key`
unfoldable pub begins : List ℕ → List ℕ → Bool
begins [] s = true
begins (k ∷ ks) [] = false
begins (k ∷ ks) (c ∷ cs) = elim (eqb k c) [ true ↦ begins ks cs | false ↦ false ]

-- the first byte is `c`
abbrev pub starts_with : ℕ → List ℕ → Bool
starts_with c [] = false
starts_with c (b ∷ bs) = eqb b c

-- a byte stands in a list
unfoldable pub has : ℕ → List ℕ → Bool
has c [] = false
has c (b ∷ bs) = elim (eqb b c) [ true ↦ true | false ↦ has c bs ]

-- how often a byte stands in a list
unfoldable pub count_of : ℕ → List ℕ → ℕ
count_of c [] = 0
count_of c (b ∷ bs) = cond (eqb b c) 1 0 + count_of c bs

-- how many bytes stand before the first `c`: all of them where there is none
unfoldable pub to_byte : ℕ → List ℕ → ℕ
to_byte c [] = 0
to_byte c (b ∷ bs) = elim (eqb b c) [ true ↦ 0 | false ↦ suc (to_byte c bs) ]

-- a place of a list; one past its end is its end
abbrev pub place_in : List ℕ → ℕ → ℕ
place_in s at = min at (length s)

-- the place of the first `c` at or after `at`, or the list's end
unfoldable pub find_byte : ℕ → List ℕ → ℕ → ℕ
find_byte c s at = place_in s at + to_byte c (drop at s)
