-- Document 01, "Topics, level by level": a text of bytes as its levels, the bytes between slashes, and the two wildcards. "a/" has two levels, and
-- an empty text one: there is always a first.
-- Assumes nothing.
use Rattle.std.specs.Prelude.{ℕ, Bool, true, false, List, [], ◌∷◌, ◌++◌, ◌==◌}
use Prim.Native.Char.{code}
use Rattle.slices.specs.Bytes.{bytes, same}

-- the bytes before the first slash
unfoldable pub first_level : List ℕ → List ℕ
first_level [] = []
first_level (c ∷ s) = elim (c == (code "/")) [ true ↦ [] | false ↦ c ∷ first_level s ]

-- the levels after the first slash
unfoldable pub rest_levels : List ℕ → List (List ℕ)
rest_levels [] = []
rest_levels (c ∷ s) = elim (c == (code "/")) [ true ↦ first_level s ∷ rest_levels s | false ↦ rest_levels s ]

-- all levels
abbrev pub levels : List ℕ → List (List ℕ)
levels s = first_level s ∷ rest_levels s

-- levels joined by slashes
unfoldable pub join_levels : List (List ℕ) → List ℕ
join_levels [] = []
join_levels (l ∷ []) = l
join_levels (l ∷ m ∷ ms) = l ++ (code "/" ∷ join_levels (m ∷ ms))

-- a level ends before these bytes: none is left, or they go on with a slash
abbrev pub level_ends : List ℕ → Bool
level_ends [] = true
level_ends (c ∷ s) = c == (code "/")

-- the level `#`, which takes this level and all after it
abbrev pub is_hash : List ℕ → Bool
is_hash l = same (bytes "#") l

-- the level `+`, which takes one level
abbrev pub is_plus : List ℕ → Bool
is_plus l = same (bytes "+") l
