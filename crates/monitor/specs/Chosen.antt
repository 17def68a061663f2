-- What is claimed of a monitor's choice between the two matchers (request C-15). A constructor makes it and no call changes it, so a run of the shipped `inspect` is one under the
-- matcher that its first state chose: what is claimed of runs under any matcher is claimed of it. And the rules are chosen as document 01 and MQTT 3.1.1 have it, level by level.
-- The proofs are in proofs/Chosen.antt.
-- Assumes nothing.
use Rattle.std.specs.Prelude.{◌≡◌, Bool, List, ℕ}
use Rattle.topics.specs.Matching.{rule_by}
use Rattle.tables.specs.declared.rules.QosPolicy.{QosPolicy}
use Rattle.tables.specs.declared.rules.TopicAction.{TopicAction}
use Rattle.monitor.specs.Calls.{add_rule, remove_rule, swap_rules, clear_rules, set_storm, remove_bucket, remove_tracker, reset_state}
use Rattle.monitor.specs.Runs.{Call, answer, shipped, after_by, after, replies_by, replies}
use Rattle.monitor.specs.State.{matcher_of}
use Rattle.monitor.specs.declared.state.MqttMonitor.{MqttMonitor}

-- a state of the same choice
abbrev pub Keeps : MqttMonitor → MqttMonitor → Type 0
Keeps m next = next.matching ≡ m.matching

-- every call keeps the choice, refused or not
pub record ChoiceKept : Type 0 where
  pub inspected : (matcher : List ℕ → List ℕ → Bool) (m : MqttMonitor) (c : Call) → Keeps m (answer matcher m c).monitor
  pub rule_added : (m : MqttMonitor) (pattern : List ℕ) (action : TopicAction) (policy : QosPolicy) (rate : ℕ) → Keeps m (add_rule m pattern action policy rate).monitor
  pub rule_removed : (m : MqttMonitor) (at : ℕ) → Keeps m (remove_rule m at).monitor
  pub rules_swapped : (m : MqttMonitor) (a b : ℕ) → Keeps m (swap_rules m a b).monitor
  pub rules_cleared : (m : MqttMonitor) → Keeps m (clear_rules m).monitor
  pub storm_set : (m : MqttMonitor) (threshold window : ℕ) → Keeps m (set_storm m threshold window).monitor
  pub bucket_removed : (m : MqttMonitor) (topic : List ℕ) → Keeps m (remove_bucket m topic).monitor
  pub tracker_removed : (m : MqttMonitor) (topic : List ℕ) → Keeps m (remove_tracker m topic).monitor
  pub reset : (m : MqttMonitor) → Keeps m (reset_state m).monitor

-- so the shipped calls of a run, one after the other, answer and leave what calls under the first state's matcher do, and the last state has its choice
pub record OneMatcher (m : MqttMonitor) (calls : List Call) : Type 0 where
  pub told : replies_by shipped m calls ≡ replies (matcher_of m) m calls
  pub left : after_by shipped m calls ≡ after (matcher_of m) m calls
  pub choice : Keeps m (after_by shipped m calls)

-- and each of them answers as an inspection whose rules are matched level by level: by document 01's definition in a port monitor, by MQTT 3.1.1 section 4.7 in a standard one
abbrev pub ByLevels : Type 0
ByLevels = (m : MqttMonitor) (c : Call) → shipped m c ≡ answer (rule_by m.matching) m c

-- the choice
pub record Chosen : Type 0 where
  pub kept : ChoiceKept
  pub one_matcher : (m : MqttMonitor) (calls : List Call) → OneMatcher m calls
  pub by_levels : ByLevels
