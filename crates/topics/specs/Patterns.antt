-- Document 01, `add_rule`, and request C-16: which patterns a rule may have, in the order of its tests.
-- Assumes nothing.
use Rattle.std.specs.Prelude.{ℕ, Bool, true, cond, not, ◌&&◌, ◌||◌, List, [], ◌∷◌, length, nat_lt}
use Prim.Native.Char.{code}
use Rattle.laws.specs.Lists.{none}
use Rattle.slices.specs.Bytes.{has, count_of}
use Rattle.topics.specs.Levels.{levels, is_hash, is_plus}
use Rattle.topics.specs.Utf8.{is_utf8}
use Rattle.topics.specs.declared.patterns.PatternRefusal.{PatternRefusal}
use Rattle.topics.specs.declared.patterns.PatternRefusal.TheVariants.{BadPattern, NotUtf8}

-- a level with no wildcard in it
abbrev pub is_plain : List ℕ → Bool
is_plain l = not (has (code "#") l) && not (has (code "+") l)

-- wildcards well placed: `+` alone in its level, `#` alone in its level and last
unfoldable pub well_placed : List (List ℕ) → Bool
well_placed [] = true
well_placed (l ∷ ls) = (is_plain l || is_plus l || (is_hash l && none ls)) && well_placed ls

-- what `validate_mqtt_wildcard` answers: not empty, and its wildcards well placed
unfoldable pub valid_wildcards : List ℕ → Bool
valid_wildcards p = not (none p) && well_placed (levels p)

-- the number that refuses a pattern, 0 for none, in the document's order: 1 to 64 bytes, no zero byte, UTF-8 (request C-16), at most three `+`, wildcards well placed
unfoldable pub pattern_refusal : List ℕ → ℕ
pattern_refusal p =
    cond (none p || nat_lt 64 (length p)) 9
    (cond (has 0 p) 9
    (cond (not (is_utf8 p)) 36
    (cond (nat_lt 3 (count_of (code "+") p)) 9
    (cond (not (well_placed (levels p))) 9
    0))))

-- the number of a refusal
abbrev pub pattern_number : PatternRefusal → ℕ
pattern_number BadPattern = 9
pattern_number NotUtf8 = 36
