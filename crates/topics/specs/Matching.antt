-- Document 01, "Topics, level by level", and request C-15: the two matchers. `match_levels` is the document's definition, for the port and for MQTT 3.1.1
-- section 4.7 alike: the flag `empty_last` says whether `+` takes an empty level that is the topic's last (the standard) or refuses it (the port). A second
-- flag, `dollar`, adds section 4.7.2. The port has neither flag and the standard has both. `match_bytes` is what the Rust does on the bytes of any pattern,
-- valid or not; proofs/matching/Meaning.antt shows that the two agree wherever the wildcards are well placed.
-- Assumes nothing.
use Rattle.std.specs.Prelude.{ℕ, Bool, true, false, cond, not, ◌&&◌, ◌||◌, List, [], ◌∷◌, ◌==◌}
use Prim.Native.Char.{code}
use Rattle.laws.specs.Lists.{none}
use Rattle.slices.specs.Bytes.{same, starts_with}
use Rattle.topics.specs.Levels.{levels, is_hash, is_plus}
use Rattle.topics.specs.Names.{starts_with_dollar}
use Rattle.topics.specs.Patterns.{pattern_refusal}
use Rattle.topics.specs.declared.matching.Matching.{Matching}
use Rattle.topics.specs.declared.matching.Matching.TheVariants.{Port, Standard}
use Rattle.topics.specs.declared.matching.StandardMatch.{StandardMatch}
use Rattle.topics.specs.declared.matching.StandardMatch.TheVariants.{Yes, No, OutsideDomain}

-- levels of a topic under levels of a pattern: `#` takes this level and all after it, also none at all; `+` takes one level, an empty last one
-- only with `empty_last`; a plain level takes an equal level
unfoldable pub match_levels : Bool → List (List ℕ) → List (List ℕ) → Bool
match_levels empty_last [] [] = true
match_levels empty_last [] (p ∷ ps) = is_hash p
match_levels empty_last (t ∷ ts) [] = false
match_levels empty_last (t ∷ ts) (p ∷ ps) =
    elim (is_hash p) [
      | true ↦ true
      | false ↦
          elim (is_plus p) [
            | true ↦ (empty_last || not (none t && none ts)) && match_levels empty_last ts ps
            | false ↦ same p t && match_levels empty_last ts ps
          ]
    ]

-- the bytes from the first slash on
unfoldable pub from_slash : List ℕ → List ℕ
from_slash [] = []
from_slash (c ∷ s) = elim (c == (code "/")) [ true ↦ c ∷ s | false ↦ from_slash s ]

-- the rest of a pattern takes no further byte: nothing is left of it, or it goes on with `#` or `/#`
unfoldable pub takes_none : List ℕ → Bool
takes_none [] = true
takes_none (c ∷ p) = elim (c == (code "#")) [ true ↦ true | false ↦ (c == (code "/")) && starts_with (code "#") p ]

-- the rest of a pattern at the topic's end: with `empty_last` a `+` takes the empty level that stands there
unfoldable pub takes_end : Bool → List ℕ → Bool
takes_end empty_last [] = true
takes_end empty_last (c ∷ p) = elim (empty_last && c == (code "+")) [ true ↦ takes_none p | false ↦ takes_none (c ∷ p) ]

-- bytes of a topic under bytes of a pattern, from the left
unfoldable pub match_bytes : Bool → List ℕ → List ℕ → Bool
match_bytes empty_last t [] = none t
match_bytes empty_last [] (c ∷ p) = takes_end empty_last (c ∷ p)
match_bytes empty_last (x ∷ t) (c ∷ p) =
    elim (c == (code "#")) [
      | true ↦ true
      | false ↦
          elim (c == (code "+")) [
            | true ↦ match_bytes empty_last (from_slash (x ∷ t)) p
            | false ↦ (c == x) && match_bytes empty_last t p
          ]
    ]

-- a pattern that begins with a wildcard
abbrev pub starts_wild : List ℕ → Bool
starts_wild pattern = starts_with (code "#") pattern || starts_with (code "+") pattern

-- section 4.7.2: a name that begins with a dollar sign is kept apart from a pattern that begins with a wildcard
abbrev pub dollar_apart : List ℕ → List ℕ → Bool
dollar_apart topic pattern = starts_with_dollar topic && starts_wild pattern

-- bytes of a topic under bytes of a pattern, by both flags: `empty_last`, and `dollar` for section 4.7.2
abbrev pub matches_with : Bool → Bool → List ℕ → List ℕ → Bool
matches_with empty_last dollar topic pattern = not (dollar && dollar_apart topic pattern) && match_bytes empty_last topic pattern

-- the same level by level, in the document's words
abbrev pub rule_with : Bool → Bool → List ℕ → List ℕ → Bool
rule_with empty_last dollar topic pattern = not (dollar && dollar_apart topic pattern) && match_levels empty_last (levels topic) (levels pattern)

-- what `topic_matches` answers, on any topic and any pattern: the port has neither flag
abbrev pub port_matches : List ℕ → List ℕ → Bool
port_matches topic pattern = matches_with false false topic pattern

-- MQTT 3.1.1 section 4.7, level by level, with 4.7.2: the standard has both flags
unfoldable pub standard_rule : List ℕ → List ℕ → Bool
standard_rule name pattern = rule_with true true name pattern

-- the choice of the standard, which turns on both flags
abbrev pub is_standard : Matching → Bool
is_standard Port = false
is_standard Standard = true

-- what a chosen matcher answers, on any topic and any pattern: whatever chooses a rule takes its matcher from here
abbrev pub matches_by : Matching → List ℕ → List ℕ → Bool
matches_by matching topic pattern = matches_with (is_standard matching) (is_standard matching) topic pattern

-- the same level by level, in the document's words
abbrev pub rule_by : Matching → List ℕ → List ℕ → Bool
rule_by matching topic pattern = rule_with (is_standard matching) (is_standard matching) topic pattern

-- what `standard_matches` answers: its domain is a pattern that `add_rule` takes and a name of at least 1 byte
unfoldable pub standard_matches : List ℕ → List ℕ → StandardMatch
standard_matches name pattern =
    cond (pattern_refusal pattern == 0 && not (none name)) (cond (standard_rule name pattern) Yes No) OutsideDomain

-- the number of each answer: 0 no, 1 yes, and document 01's 9 outside the domain
abbrev pub match_number : StandardMatch → ℕ
match_number No = 0
match_number Yes = 1
match_number OutsideDomain = 9

-- a `+` of the pattern stands where the topic's last level is, and that level is empty
unfoldable pub plus_at_empty_last : List (List ℕ) → List (List ℕ) → Bool
plus_at_empty_last [] ps = false
plus_at_empty_last (t ∷ ts) [] = false
plus_at_empty_last (t ∷ ts) (p ∷ ps) =
    elim (is_hash p) [ true ↦ false | false ↦ (is_plus p && none t && none ts) || plus_at_empty_last ts ps ]
