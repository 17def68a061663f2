-- The state, the test behind number 10, and one update for each group of fields (document 01, "Numbers handed back").
-- Assumes nothing.
use Rattle.std.specs.Prelude.{Bool, cond, ◌&&◌, List, ℕ, eqb, leb, take}
use Rattle.laws.specs.Lists.{every}
use Rattle.topics.specs.Matching.{matches_by}
use Rattle.tables.specs.declared.buckets.RateBucket.{RateBucket}
use Rattle.tables.specs.declared.rules.TopicRule.{TopicRule}
use Rattle.tables.specs.declared.trackers.EwmaTracker.{EwmaTracker}
use Rattle.tables.specs.declared.windows.ClientStormEntry.{ClientStormEntry}
use Rattle.tables.specs.Buckets.{bucket_fine}
use Rattle.tables.specs.Rules.{rule_fine}
use Rattle.tables.specs.Trackers.{tracker_fine}
use Rattle.tables.specs.Windows.{window_fine}
use Rattle.monitor.specs.declared.state.MqttMonitor.{MqttMonitor}
use Rattle.monitor.specs.Ended.{Outcome, Done, Refused, Called}

-- not a state that no call hands out: at most 32 rules, each live with a pattern that `add_rule` takes, and no live record with a prefix length over 32
-- or a window count over 16
unfoldable pub well_formed : MqttMonitor → Bool
well_formed m =
    leb m.rule_count 32 && every rule_fine (take m.rule_count m.rules) && every bucket_fine m.rate_buckets
    && every window_fine m.connect_windows && every tracker_fine m.ewma_trackers

-- the matcher of a monitor's rules (topic, then pattern): the one that its constructor chose
abbrev pub matcher_of : MqttMonitor → List ℕ → List ℕ → Bool
matcher_of m = matches_by m.matching

-- the state with other rules
abbrev pub with_rules : MqttMonitor → List TopicRule → ℕ → MqttMonitor
with_rules m rules n =
    record {
      rules = rules;
      rule_count = n;
      rate_buckets = m.rate_buckets;
      connect_windows = m.connect_windows;
      connect_storm_threshold = m.connect_storm_threshold;
      connect_storm_window_us = m.connect_storm_window_us;
      default_action = m.default_action;
      matching = m.matching;
      ewma_trackers = m.ewma_trackers;
      next_alert_id = m.next_alert_id;
      total_inspected = m.total_inspected;
      total_alerts = m.total_alerts;
    }

-- the state with other CONNECT settings
abbrev pub with_settings : MqttMonitor → ℕ → ℕ → MqttMonitor
with_settings m threshold window =
    record {
      rules = m.rules;
      rule_count = m.rule_count;
      rate_buckets = m.rate_buckets;
      connect_windows = m.connect_windows;
      connect_storm_threshold = threshold;
      connect_storm_window_us = window;
      default_action = m.default_action;
      matching = m.matching;
      ewma_trackers = m.ewma_trackers;
      next_alert_id = m.next_alert_id;
      total_inspected = m.total_inspected;
      total_alerts = m.total_alerts;
    }

-- the state with other tables
abbrev pub with_tables : MqttMonitor → List RateBucket → List ClientStormEntry → List EwmaTracker → MqttMonitor
with_tables m buckets clients trackers =
    record {
      rules = m.rules;
      rule_count = m.rule_count;
      rate_buckets = buckets;
      connect_windows = clients;
      connect_storm_threshold = m.connect_storm_threshold;
      connect_storm_window_us = m.connect_storm_window_us;
      default_action = m.default_action;
      matching = m.matching;
      ewma_trackers = trackers;
      next_alert_id = m.next_alert_id;
      total_inspected = m.total_inspected;
      total_alerts = m.total_alerts;
    }

-- the state with other counters
abbrev pub with_counters : MqttMonitor → ℕ → ℕ → ℕ → MqttMonitor
with_counters m id inspected alerts =
    record {
      rules = m.rules;
      rule_count = m.rule_count;
      rate_buckets = m.rate_buckets;
      connect_windows = m.connect_windows;
      connect_storm_threshold = m.connect_storm_threshold;
      connect_storm_window_us = m.connect_storm_window_us;
      default_action = m.default_action;
      matching = m.matching;
      ewma_trackers = m.ewma_trackers;
      next_alert_id = id;
      total_inspected = inspected;
      total_alerts = alerts;
    }

-- what a call hands back: refused by a number above 0, the state is as given
abbrev pub ended : ℕ → MqttMonitor → ℕ → MqttMonitor → Called
ended number m value next =
    cond (eqb number 0) (record { outcome = Done value; monitor = next }) (record { outcome = Refused number; monitor = m })

-- the number of an outcome: 0 is none
abbrev pub number_of : Outcome → ℕ
number_of (Done value) = 0
number_of (Refused number) = number
