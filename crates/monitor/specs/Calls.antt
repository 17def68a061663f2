-- The other calls (document 01, "Numbers handed back", "What the hub takes over"): constructors, rules, CONNECT settings, removals, reset. Each gives its refusal as
-- one number, 0 for none, in the document's order; 10 is tested first.
-- Assumes nothing.
use Rattle.std.specs.Prelude.{cond, ◌&&◌, List, ◌∷◌, ◌++◌, ℕ, ◌+◌, ◌-◌, min, max, ltb, get_or, take, drop, set, replicate}
use Rattle.topics.specs.declared.matching.Matching.{Matching}
use Rattle.tables.specs.Identity.{id_of}
use Rattle.tables.specs.Buckets.{empty_bucket, removed_bucket}
use Rattle.tables.specs.Rules.{shadow_count, empty_rule, no_rule, rule_plan}
use Rattle.tables.specs.Trackers.{empty_tracker, removed_tracker}
use Rattle.tables.specs.Windows.{empty_window}
use Rattle.tables.specs.declared.rules.QosPolicy.{QosPolicy}
use Rattle.tables.specs.declared.rules.TopicAction.{TopicAction}
use Rattle.tables.specs.declared.rules.TopicRule.{TopicRule}
use Rattle.tables.specs.Rules.{RulePlan}
use Rattle.monitor.specs.State.{well_formed, with_rules, with_settings, with_tables, with_counters, ended}
use Rattle.monitor.specs.Ended.{Called, Outcome, Done, Refused}
use Rattle.monitor.specs.declared.state.MqttMonitor.{MqttMonitor}

-- a fresh monitor with a matcher of its rules and a default action: no rules, all places free, CONNECT threshold 5 in 60,000,000, ids from 1
unfoldable pub fresh : Matching → TopicAction → MqttMonitor
fresh matching default =
    record {
      rules = replicate 32 empty_rule;
      rule_count = 0;
      rate_buckets = replicate 32 empty_bucket;
      connect_windows = replicate 16 empty_window;
      connect_storm_threshold = 5;
      connect_storm_window_us = 60000000;
      default_action = default;
      matching = matching;
      ewma_trackers = replicate 16 empty_tracker;
      next_alert_id = 1;
      total_inspected = 0;
      total_alerts = 0;
    }

-- 10, or else a number
abbrev pub tested : MqttMonitor → ℕ → ℕ
tested m number = cond (well_formed m) number 10

-- the state with a rule where its plan says
abbrev pub with_rule : MqttMonitor → RulePlan → MqttMonitor
with_rule m plan = with_rules m (set m.rules plan.at plan.rule) plan.count

-- the shadow count of a state
abbrev pub shadows_in : MqttMonitor → ℕ
shadows_in m = shadow_count m.rules m.rule_count

-- a plan carried out: 10, the plan's own number, else the rule is stored and the shadow count handed back
abbrev pub add_planned : MqttMonitor → RulePlan → Called
add_planned m plan = ended (tested m plan.number) m (shadows_in (with_rule m plan)) (with_rule m plan)

-- `add_rule`
unfoldable pub add_rule : MqttMonitor → List ℕ → TopicAction → QosPolicy → ℕ → Called
add_rule m p action policy rate = add_planned m (rule_plan m.rules m.rule_count p action policy rate)

-- a table of rules without the one at a place: later ones move up, and the last place is free
unfoldable pub without : List TopicRule → ℕ → ℕ → List TopicRule
without rules at n = take at rules ++ take (n - 1 - at) (drop (at + 1) rules) ++ (empty_rule ∷ drop n rules)

-- `remove_rule`: 9 for an index at or past the count
unfoldable pub remove_rule : MqttMonitor → ℕ → Called
remove_rule m at =
    ended (tested m (cond (ltb at m.rule_count) 0 9)) m 0 (with_rules m (without m.rules at m.rule_count) (m.rule_count - 1))

-- two places of a table exchanged
abbrev pub exchanged : List TopicRule → ℕ → ℕ → List TopicRule
exchanged rules a b = set (set rules a (get_or rules b no_rule)) b (get_or rules a no_rule)

-- `swap_rules`: 9 for either index at or past the count
unfoldable pub swap_rules : MqttMonitor → ℕ → ℕ → Called
swap_rules m a b =
    ended (tested m (cond (ltb a m.rule_count && ltb b m.rule_count) 0 9)) m 0 (with_rules m (exchanged m.rules a b) m.rule_count)

-- `clear_rules`
unfoldable pub clear_rules : MqttMonitor → Called
clear_rules m = ended (tested m 0) m 0 (with_rules m (replicate 32 empty_rule) 0)

-- `validate_rules`: the shadow count
unfoldable pub validate_rules : MqttMonitor → Outcome
validate_rules m = cond (well_formed m) (Done (shadows_in m)) (Refused 10)

-- `set_connect_storm_params`: threshold is clamped to 2..16, window to 1,000,000..600,000,000
unfoldable pub set_storm : MqttMonitor → ℕ → ℕ → Called
set_storm m threshold window =
    ended (tested m 0) m 0 (with_settings m (min (max threshold 2) 16) (min (max window 1000000) 600000000))

-- `remove_rate_bucket`: 7 where it is not held; its place becomes free
unfoldable pub remove_bucket : MqttMonitor → List ℕ → Called
remove_bucket m topic =
    ended (tested m (cond (ltb (removed_bucket (id_of topic) m.rate_buckets) 32) 0 7)) m 0
    (with_tables m (set m.rate_buckets (removed_bucket (id_of topic) m.rate_buckets) empty_bucket) m.connect_windows m.ewma_trackers)

-- `remove_ewma_tracker`: 7 where it is not held; its place becomes free
unfoldable pub remove_tracker : MqttMonitor → List ℕ → Called
remove_tracker m topic =
    ended (tested m (cond (ltb (removed_tracker (id_of topic) m.ewma_trackers) 16) 0 7)) m 0
    (with_tables m m.rate_buckets m.connect_windows (set m.ewma_trackers (removed_tracker (id_of topic) m.ewma_trackers) empty_tracker))

-- `reset_state` keeps rules, default, matcher and CONNECT settings
unfoldable pub reset_state : MqttMonitor → Called
reset_state m =
    ended (tested m 0) m 0
    (with_counters (with_tables m (replicate 32 empty_bucket) (replicate 16 empty_window) (replicate 16 empty_tracker)) 1 0 0)
