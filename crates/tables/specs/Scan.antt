-- Searching a table, whatever its records are: the first place that passes a test, and the place of the least number, the first in a tie
-- (document 01, "Buckets", "CONNECT windows and payload trackers").
-- Assumes nothing.
use Rattle.std.specs.Prelude.{Bool, true, false, cond, List, [], ◌∷◌, ℕ, zero, suc, leb, ltb, length, Option, Some, None}

-- the first place whose record passes a test; the table's length where none does
unfoldable pub find : {A : Type 0} → (A → Bool) → List A → ℕ
find p [] = zero
find p (x ∷ xs) = elim (p x) [ true ↦ zero | false ↦ suc (find p xs) ]

-- a place of a table of n records, or none where it is past the end
abbrev pub placed : ℕ → ℕ → Option ℕ
placed n at = cond (ltb at n) (Some at) None

-- the least number of a table and its place, or that no record was to be looked at
pub data Least : Type 0 where
  absent : Least
  least : ℕ → ℕ → Least

-- one record more in front, to be looked at: it wins a tie
abbrev pub in_front : ℕ → Least → Least
in_front t absent = least 0 t
in_front t (least at u) = cond (leb t u) (least 0 t) (least (suc at) u)

-- one record more in front, not to be looked at
abbrev pub skipped : Least → Least
skipped absent = absent
skipped (least at u) = least (suc at) u

-- the least number `f` among the records that pass a test
unfoldable pub least_of : {A : Type 0} → (A → ℕ) → (A → Bool) → List A → Least
least_of f p [] = absent
least_of f p (x ∷ xs) = cond (p x) (in_front (f x) (least_of f p xs)) (skipped (least_of f p xs))

-- the place of the least, 0 where there is none
abbrev pub least_place : Least → ℕ
least_place absent = 0
least_place (least at u) = at

-- whether there is one
abbrev pub is_there : Least → Bool
is_there absent = false
is_there (least at u) = true

-- every record is to be looked at
abbrev pub any : {A : Type 0} → A → Bool
any x = true

-- a place for a newcomer: the first free one, else the one with the least number
unfoldable pub seat : {A : Type 0} → (A → Bool) → (A → ℕ) → List A → ℕ
seat free f xs = cond (ltb (find free xs) (length xs)) (find free xs) (least_place (least_of f any xs))
