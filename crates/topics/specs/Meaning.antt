-- What is claimed of the matchers (document 01, "Topics, level by level"), of every topic and every pattern whose wildcards are well placed. That the Rust answers so too, also on
-- other patterns, is not proved but compared (bin/compare). The proofs are in proofs/matching/Meaning.antt and Difference.antt.
-- Assumes nothing.
use Rattle.std.specs.Prelude.{◌≡◌, ℕ, Bool, true, not, ◌&&◌, List}
use Rattle.topics.specs.Levels.{levels}
use Rattle.topics.specs.Matching.{dollar_apart, matches_with, rule_with, port_matches, standard_rule, plus_at_empty_last}
use Rattle.topics.specs.Patterns.{well_placed}

-- the byte matcher, with either of both flags, is the document's definition level by level
abbrev pub Meaning : Type 0
Meaning =
    (empty_last dollar : Bool) (topic pattern : List ℕ) → well_placed (levels pattern) ≡ true
    → matches_with empty_last dollar topic pattern ≡ rule_with empty_last dollar topic pattern

-- Where the two matchers differ, each way
pub record Differs (topic pattern : List ℕ) : Type 0 where
  -- the port alone says yes exactly where it says yes and section 4.7.2 keeps the name apart: it begins with a dollar sign, and the pattern with a wildcard
  pub only_port : (port_matches topic pattern && not (standard_rule topic pattern)) ≡ (port_matches topic pattern && dollar_apart topic pattern)
  -- the standard alone says yes exactly where it says yes and a `+` stands at the topic's last level, which is empty
  pub only_standard :
      (standard_rule topic pattern && not (port_matches topic pattern)) ≡ (standard_rule topic pattern && plus_at_empty_last (levels topic) (levels pattern))

-- they differ there and nowhere else
abbrev pub Difference : Type 0
Difference = (topic pattern : List ℕ) → well_placed (levels pattern) ≡ true → Differs topic pattern
