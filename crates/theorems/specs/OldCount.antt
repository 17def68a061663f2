-- What the old shadow count, which `add_rule` hands back, gets wrong (request C-20), by rules that show it. It reads the later pattern as a topic, under the port: so under the port it counts
-- too much and never too little (`OldCountMeets` of topics/specs/Covered.antt), and under the standard it does both.
-- Assumes nothing.
use Rattle.std.specs.Prelude.{true, false, List, [], ◌∷◌, ◌≡◌, ℕ, replicate}
use Prim.Native.String.{String}
use Rattle.slices.specs.Bytes.{bytes}
use Rattle.topics.specs.Covering.{witness}
use Rattle.topics.specs.declared.matching.Matching.TheVariants.{Port, Standard}
use Rattle.tables.specs.Covers.{cover_report}
use Rattle.tables.specs.Rules.{rule_of, shadow_count}
use Rattle.tables.specs.declared.rules.QosPolicy.TheVariants.{Any}
use Rattle.tables.specs.declared.rules.TopicAction.TheVariants.{Allow}
use Rattle.tables.specs.declared.rules.TopicRule.{TopicRule}

-- a rule of this pattern, and one that comes after it
abbrev pub two : String → String → List TopicRule
two earlier later = rule_of (bytes earlier) Allow Any 0 ∷ rule_of (bytes later) Allow Any 0 ∷ []

-- no rule is reported
abbrev pub none_covered : List ℕ
none_covered = replicate 32 0

-- the second is reported, hidden by the first
abbrev pub second_covered : List ℕ
second_covered = 0 ∷ 1 ∷ replicate 30 0

pub record OldCountWrong : Type 0 where
  -- `a/#` behind `a/+` is counted, and no matcher has it covered: only `a/#` matches the topic `a`
  pub counted : shadow_count (two "a/+" "a/#") 2 ≡ 1
  pub not_by_port : cover_report Port (two "a/+" "a/#") 2 ≡ none_covered
  pub not_by_standard : cover_report Standard (two "a/+" "a/#") 2 ≡ none_covered
  pub port_shown : witness false false (bytes "a/+") (bytes "a/#") ≡ bytes "a"
  pub standard_shown : witness true true (bytes "a/+") (bytes "a/#") ≡ bytes "a"
  -- under the standard even a pattern without wildcards is counted and not covered: `#` leaves `$a` alone
  pub dollar_counted : shadow_count (two "#" "$a") 2 ≡ 1
  pub dollar_not : cover_report Standard (two "#" "$a") 2 ≡ none_covered
  pub dollar_shown : witness true true (bytes "#") (bytes "$a") ≡ bytes "$a"
  -- and one is covered and not counted: `a/` behind `a/+`, whose `+` takes the empty last level; under the port it is neither
  pub missed : shadow_count (two "a/+" "a/") 2 ≡ 0
  pub missed_covered : cover_report Standard (two "a/+" "a/") 2 ≡ second_covered
  pub missed_port : cover_report Port (two "a/+" "a/") 2 ≡ none_covered
  -- where it is right: `a/b` behind `a/+`
  pub right : shadow_count (two "a/+" "a/b") 2 ≡ 1
  pub right_covered : cover_report Port (two "a/+" "a/b") 2 ≡ second_covered
