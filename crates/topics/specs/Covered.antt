-- What is claimed of covering (request C-20), of every two patterns that `add_rule` takes and under both flags of the matcher at once. The proofs are in proofs/covering/Exact.antt and Counted.antt.
-- Assumes nothing.
use Rattle.std.specs.Prelude.{◌≡◌, ℕ, Bool, true, false, not, ◌&&◌, List, length, nat_le}
use Rattle.topics.specs.Covering.{only_later, witness, covers}
use Rattle.topics.specs.Levels.{levels}
use Rattle.topics.specs.Matching.{matches_with, port_matches, plus_at_empty_last}
use Rattle.topics.specs.Names.{bad_publish}
use Rattle.topics.specs.Patterns.{pattern_refusal}

-- names: 1 to 128 bytes, none of them zero, `+` or `#`
abbrev pub is_name : List ℕ → Bool
is_name n = nat_le 1 (length n) && nat_le (length n) 128 && not (bad_publish n)

-- a matcher's earlier pattern matches every name that its later one matches
abbrev pub MatchesAll : (List ℕ → List ℕ → Bool) → List ℕ → List ℕ → Type 0
MatchesAll matches earlier later = (n : List ℕ) → is_name n ≡ true → matches n later ≡ true → matches n earlier ≡ true

-- a name that the later one matches and the earlier does not
abbrev pub shows : (List ℕ → List ℕ → Bool) → List ℕ → List ℕ → List ℕ → Bool
shows matches earlier later n = is_name n && matches n later && not (matches n earlier)

-- of two patterns, under two flags
pub record Exact (empty_last dollar : Bool) (earlier later : List ℕ) : Type 0 where
  -- `covers` answers yes exactly where the earlier pattern matches every name that the later one matches
  pub covered : covers empty_last dollar earlier later ≡ true → MatchesAll (matches_with empty_last dollar) earlier later
  pub covering : MatchesAll (matches_with empty_last dollar) earlier later → covers empty_last dollar earlier later ≡ true
  -- where it answers no, the witness is a name that only the later pattern matches
  pub shown : covers empty_last dollar earlier later ≡ false → shows (matches_with empty_last dollar) earlier later (witness empty_last dollar earlier later) ≡ true
  -- and where it answers yes every topic of at least 1 byte is meant, one with wildcards or zero bytes too, as a Subscribe may have
  pub every_topic : covers empty_last dollar earlier later ≡ true → (topic : List ℕ) → only_later empty_last dollar earlier later topic ≡ false

abbrev pub CoversExactly : Type 0
CoversExactly =
    (empty_last dollar : Bool) (earlier later : List ℕ) → pattern_refusal earlier ≡ 0 → pattern_refusal later ≡ 0 → Exact empty_last dollar earlier later

-- The old shadow count reads the later pattern as a topic, under the port. What it makes of a covered pattern:
pub record OldCount (earlier later : List ℕ) : Type 0 where
  -- under the port all that is covered is counted, whether it has wildcards or not
  pub by_port : covers false false earlier later ≡ true → port_matches later earlier ≡ true
  -- under the standard too, but where a `+` of the earlier pattern stands at the later one's last level, which is empty
  pub by_standard : covers true true earlier later ≡ true → plus_at_empty_last (levels later) (levels earlier) ≡ false → port_matches later earlier ≡ true

abbrev pub OldCountMeets : Type 0
OldCountMeets = (earlier later : List ℕ) → pattern_refusal earlier ≡ 0 → pattern_refusal later ≡ 0 → OldCount earlier later
