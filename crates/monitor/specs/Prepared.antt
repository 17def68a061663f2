-- Fresh monitors (demand 3: a fresh monitor with rules): any constructor, or a reset of any state that calls handed out; then any calls but inspections, in any order
-- and with any arguments, refused or not. However a hub gets its rules into place, it is one of these before its first message; what a settings text loads to is
-- one, too (`settings`' specs/OneToOne.antt). No bucket is live in them (proofs/Prepared.antt).
-- Assumes nothing.
use Rattle.std.specs.Prelude.{List, ℕ}
use Rattle.topics.specs.declared.matching.Matching.{Matching}
use Rattle.tables.specs.declared.rules.QosPolicy.{QosPolicy}
use Rattle.tables.specs.declared.rules.TopicAction.{TopicAction}
use Rattle.monitor.specs.Calls.{fresh, add_rule, remove_rule, swap_rules, clear_rules, set_storm, remove_bucket, remove_tracker, reset_state}
use Rattle.monitor.specs.Reached.{Reached}
use Rattle.monitor.specs.declared.state.MqttMonitor.{MqttMonitor}

-- a monitor before its first message
pub data Prepared : MqttMonitor → Type 0 where
  made : (matching : Matching) (default : TopicAction) → Prepared (fresh matching default)
  anew : {m : MqttMonitor} → Reached m → Prepared (reset_state m).monitor
  rule :
      {m : MqttMonitor} → Prepared m → (pattern : List ℕ) (action : TopicAction) (policy : QosPolicy) (rate : ℕ)
      → Prepared (add_rule m pattern action policy rate).monitor
  removed : {m : MqttMonitor} → Prepared m → (at : ℕ) → Prepared (remove_rule m at).monitor
  swapped : {m : MqttMonitor} → Prepared m → (a b : ℕ) → Prepared (swap_rules m a b).monitor
  cleared : {m : MqttMonitor} → Prepared m → Prepared (clear_rules m).monitor
  storm : {m : MqttMonitor} → Prepared m → (threshold window : ℕ) → Prepared (set_storm m threshold window).monitor
  bucket : {m : MqttMonitor} → Prepared m → (topic : List ℕ) → Prepared (remove_bucket m topic).monitor
  tracker : {m : MqttMonitor} → Prepared m → (topic : List ℕ) → Prepared (remove_tracker m topic).monitor
