-- The states that calls hand out (document 01, "Numbers handed back": "one reached from a constructor or a load by calls alone"): a constructor, with either choice of the
-- matcher, then any calls, in any order and with any arguments, refused or not. An inspection takes the matcher that its state chose. A load
-- of settings hands out one of these (`settings`' specs/OneToOne.antt).
-- Assumes nothing.
use Rattle.std.specs.Prelude.{List, ℕ, ◌<◌, get_or}
use Rattle.topics.specs.Encoding.{Sendable}
use Rattle.topics.specs.declared.matching.Matching.{Matching}
use Rattle.tables.specs.Rules.{pattern_of, no_rule}
use Rattle.tables.specs.declared.rules.QosPolicy.{QosPolicy}
use Rattle.tables.specs.declared.rules.TopicAction.{TopicAction}
use Rattle.monitor.specs.Calls.{fresh, add_rule, remove_rule, swap_rules, clear_rules, set_storm, remove_bucket, remove_tracker, reset_state}
use Rattle.monitor.specs.Inspect.{inspect_with}
use Rattle.monitor.specs.Sound.{Sound}
use Rattle.monitor.specs.State.{matcher_of}
use Rattle.monitor.specs.Unbroken.{Unbroken}
use Rattle.monitor.specs.declared.message.MqttMessage.{MqttMessage}
use Rattle.monitor.specs.declared.state.MqttMonitor.{MqttMonitor}

-- a state reached by calls alone
pub data Reached : MqttMonitor → Type 0 where
  constructed : (matching : Matching) (default : TopicAction) → Reached (fresh matching default)
  inspected :
      {m : MqttMonitor} (msg : MqttMessage) (topic payload : List ℕ) → Reached m
      → Reached (inspect_with (matcher_of m) m msg topic payload).monitor
  rule_added :
      {m : MqttMonitor} (pattern : List ℕ) (action : TopicAction) (policy : QosPolicy) (rate : ℕ) → Reached m
      → Reached (add_rule m pattern action policy rate).monitor
  rule_removed : {m : MqttMonitor} (at : ℕ) → Reached m → Reached (remove_rule m at).monitor
  rules_swapped : {m : MqttMonitor} (a b : ℕ) → Reached m → Reached (swap_rules m a b).monitor
  rules_cleared : {m : MqttMonitor} → Reached m → Reached (clear_rules m).monitor
  storm_set : {m : MqttMonitor} (threshold window : ℕ) → Reached m → Reached (set_storm m threshold window).monitor
  bucket_removed : {m : MqttMonitor} (topic : List ℕ) → Reached m → Reached (remove_bucket m topic).monitor
  tracker_removed : {m : MqttMonitor} (topic : List ℕ) → Reached m → Reached (remove_tracker m topic).monitor
  reset : {m : MqttMonitor} → Reached m → Reached (reset_state m).monitor

-- each of them is sound (specs/Sound.antt), which is more than number 10 tests: so that number is never met in one
abbrev pub SoundAlways : Type 0
SoundAlways = (m : MqttMonitor) → Reached m → Sound m

-- and so far without a load, each is the monitor's own making too (specs/Unbroken.antt)
abbrev pub UnbrokenAlways : Type 0
UnbrokenAlways = (m : MqttMonitor) → Reached m → Unbroken m

-- and no rule that one holds has a pattern that no client can send (request C-16)
abbrev pub SendableAlways : Type 0
SendableAlways = (m : MqttMonitor) → Reached m → (i : ℕ) → i < m.rule_count → Sendable (pattern_of (get_or m.rules i no_rule))
