-- What is claimed of the two calls on covered rules (request C-20), by the matcher that the monitor chose. The proofs are in proofs/Covered.antt.
-- Assumes nothing.
use Rattle.std.specs.Prelude.{true, List, ◌≡◌, ℕ, suc, ◌<◌, ◌≤◌, length, get_or, take}
use Rattle.topics.specs.Covered.{MatchesAll, shows}
use Rattle.topics.specs.declared.matching.Matching.TheVariants.{Port}
use Rattle.tables.specs.Rules.{pattern_of, no_rule, shadowed}
use Rattle.monitor.specs.Covers.{covered_rules, later_name}
use Rattle.monitor.specs.Runs.{Call, shipped}
use Rattle.monitor.specs.State.{well_formed, matcher_of}
use Rattle.monitor.specs.declared.gate.Stage.TheVariants.{Rule}
use Rattle.monitor.specs.declared.state.MqttMonitor.{MqttMonitor}

-- the pattern of the rule at a place
abbrev pub pattern_at : MqttMonitor → ℕ → List ℕ
pattern_at m i = pattern_of (get_or m.rules i no_rule)

-- the rule at one place matches every name that the rule at another matches
abbrev pub CoversAt : MqttMonitor → ℕ → ℕ → Type 0
CoversAt m earlier later = MatchesAll (matcher_of m) (pattern_at m earlier) (pattern_at m later)

-- the number that the report has for a place
abbrev pub cover_of : MqttMonitor → ℕ → ℕ
cover_of m i = get_or (covered_rules m).covers i 0

-- the report on a rule that is held
pub record Reported (m : MqttMonitor) (i : ℕ) : Type 0 where
  -- a number says which earlier rule matches every name that it matches: the first that does
  pub first : (k : ℕ) → cover_of m i ≡ suc k → (k < i) × CoversAt m k i × ((j : ℕ) → j < k → CoversAt m j i → ⊥)
  -- and 0 that no earlier rule does
  pub free : cover_of m i ≡ 0 → (j : ℕ) → j < i → CoversAt m j i → ⊥
  -- a rule with a number can never speak: whatever the message, `inspect` does not choose it
  pub silent : (k : ℕ) → cover_of m i ≡ suc k → (c : Call) → (shipped m c).stage ≡ Rule i → ⊥
  -- in a port monitor the old shadow count has each rule with a number
  pub counted : (k : ℕ) → cover_of m i ≡ suc k → m.matching ≡ Port → shadowed (pattern_at m i) (take i m.rules) ≡ true

-- what is handed back of two rules
pub record Between (m : MqttMonitor) (later earlier : ℕ) : Type 0 where
  pub answered : (later_name m later earlier).number ≡ 0
  -- a name is one that only the later rule matches
  pub name :
      1 ≤ (later_name m later earlier).witness.len
      → shows (matcher_of m) (pattern_at m earlier) (pattern_at m later) (take (later_name m later earlier).witness.len (later_name m later earlier).witness.name) ≡ true
  -- and none says that the earlier rule matches every name that the later one matches
  pub no_name : (later_name m later earlier).witness.len ≡ 0 → CoversAt m earlier later

-- a state's report: each rule that is held, 0 for each place past them; and each two of its rules
pub record OnRules (m : MqttMonitor) : Type 0 where
  pub answered : (covered_rules m).number ≡ 0
  pub reported : (i : ℕ) → i < m.rule_count → Reported m i
  pub past : (i : ℕ) → m.rule_count ≤ i → cover_of m i ≡ 0
  pub between : (later earlier : ℕ) → later < m.rule_count → earlier < later → Between m later earlier

-- of every state that passes the test behind number 10; a table has 32 places, as its type has it
abbrev pub Covered : Type 0
Covered = (m : MqttMonitor) → well_formed m ≡ true → length m.rules ≡ 32 → OnRules m
