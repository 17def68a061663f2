-- A fresh monitor to which only rules are added has nothing but its table of rules (`Plain`): so whoever makes such a monitor need own only the table (`holding`). Assumes nothing.
use mathlib.Core.List.{List}
use mathlib.Core.Path.{◌≡◌, refl, ap}
use Prim.Native.Nat.{ℕ}
use lib.Dec.{eqb}
use lib.ListN.{set, replicate}
use Rattle.laws.proofs.Cases.{by}
use Rattle.topics.specs.declared.matching.Matching.{Matching}
use Rattle.tables.specs.Rules.{empty_rule, rule_plan}
use Rattle.tables.specs.declared.rules.QosPolicy.{QosPolicy}
use Rattle.tables.specs.declared.rules.TopicAction.{TopicAction}
use Rattle.tables.specs.declared.rules.TopicRule.{TopicRule}
use Rattle.monitor.specs.Calls.{fresh, tested, add_rule}
use Rattle.monitor.specs.State.{with_rules}
use Rattle.monitor.specs.declared.state.MqttMonitor.{MqttMonitor}

-- the monitor that has these rules
abbrev pub holding : Matching → TopicAction → List TopicRule → ℕ → MqttMonitor
holding matching default rules n = with_rules (fresh matching default) rules n

-- with a free table it is as it began
pub no_rules : (matching : Matching) (default : TopicAction) → holding matching default (replicate 32 empty_rule) 0 ≡ fresh matching default
unfolding fresh
no_rules matching default = refl

-- only rules were added to a fresh monitor
abbrev pub Plain : MqttMonitor → Type 0
Plain m = holding m.matching m.default_action m.rules m.rule_count ≡ m

pub fresh_plain : (matching : Matching) (default : TopicAction) → Plain (fresh matching default)
unfolding fresh
fresh_plain matching default = refl

pub add_plain : (m : MqttMonitor) (p : List ℕ) (action : TopicAction) (policy : QosPolicy) (rate : ℕ) → Plain m → Plain (add_rule m p action policy rate).monitor
unfolding add_rule
add_plain m p action policy rate h =
    let d = rule_plan m.rules m.rule_count p action policy rate in
    by (eqb (tested m d.number) 0) (λ e. rw e (ap (λ (x : MqttMonitor). with_rules x (set m.rules d.at d.rule) d.count) h)) (λ e. rw e h)

-- whose default and matcher stay
pub add_default : (m : MqttMonitor) (p : List ℕ) (action : TopicAction) (policy : QosPolicy) (rate : ℕ) → (add_rule m p action policy rate).monitor.default_action ≡ m.default_action
unfolding add_rule
add_default m p action policy rate = by (eqb (tested m (rule_plan m.rules m.rule_count p action policy rate).number) 0) (λ e. rw e) (λ e. rw e)

pub add_matching : (m : MqttMonitor) (p : List ℕ) (action : TopicAction) (policy : QosPolicy) (rate : ℕ) → (add_rule m p action policy rate).monitor.matching ≡ m.matching
unfolding add_rule
add_matching m p action policy rate = by (eqb (tested m (rule_plan m.rules m.rule_count p action policy rate).number) 0) (λ e. rw e) (λ e. rw e)
