-- Every number of a state within its type. To the definitions a state is numbers without bounds; every value that code hands over meets this, because its fields have these types. What is said of a
-- state's text takes it as a premise (requests C-13, C-23).
-- Assumes nothing.
use Rattle.std.specs.Prelude.{List, ℕ, ◌^◌, ◌<◌, get_or}
use Rattle.tables.specs.Buckets.{no_bucket}
use Rattle.tables.specs.Rules.{no_rule}
use Rattle.tables.specs.Trackers.{no_tracker}
use Rattle.tables.specs.Windows.{no_window}
use Rattle.tables.specs.declared.buckets.RateBucket.{RateBucket}
use Rattle.tables.specs.declared.identity.Id.{Id}
use Rattle.tables.specs.declared.rules.TopicRule.{TopicRule}
use Rattle.tables.specs.declared.trackers.EwmaTracker.{EwmaTracker}
use Rattle.tables.specs.declared.windows.ClientStormEntry.{ClientStormEntry}
use Rattle.monitor.specs.declared.state.MqttMonitor.{MqttMonitor}

-- numbers below a bound; what is read past the end is 0
abbrev pub Below : ℕ → List ℕ → Type 0
Below n l = (i : ℕ) → get_or l i 0 < n

pub record RangedRule (r : TopicRule) : Type 0 where
  pub pattern_bytes : Below 256 r.pattern
  pub pattern_len : r.pattern_len < 256
  pub rate : r.max_rate_per_sec < 65536

pub record RangedId (id : Id) : Type 0 where
  pub hash_fits : id.hash < 2 ^ 32
  pub hash2_fits : id.hash2 < 2 ^ 32
  pub prefix_bytes : Below 256 id.prefix
  pub prefix_len : id.prefix_len < 256
  pub len_fits : id.len < 65536
  pub suffix_fits : id.suffix_hash < 2 ^ 32

pub record RangedBucket (b : RateBucket) : Type 0 where
  pub id_ranged : RangedId b.id
  pub tokens_fit : b.tokens < 65536
  pub capacity_fits : b.capacity < 65536
  pub remainder_fits : b.remainder < 2 ^ 32
  pub time_fits : b.last_refill_us < 2 ^ 64

pub record RangedWindow (e : ClientStormEntry) : Type 0 where
  pub hash_fits : e.client_hash < 2 ^ 32
  pub hash2_fits : e.client_hash2 < 2 ^ 32
  pub stamps_fit : Below (2 ^ 64) e.timestamps
  pub count_fits : e.count < 256
  pub write_fits : e.write_idx < 256
  pub seen_fits : e.last_seen_us < 2 ^ 64

pub record RangedTracker (k : EwmaTracker) : Type 0 where
  pub id_ranged : RangedId k.id
  pub mean_fits : k.mean_x256 < 2 ^ 32
  pub samples_fit : k.sample_count < 256
  pub time_fits : k.last_update_us < 2 ^ 64

pub record Ranged (m : MqttMonitor) : Type 0 where
  pub rules_ranged : (i : ℕ) → RangedRule (get_or m.rules i no_rule)
  pub count_fits : m.rule_count < 65536
  pub buckets_ranged : (i : ℕ) → RangedBucket (get_or m.rate_buckets i no_bucket)
  pub windows_ranged : (i : ℕ) → RangedWindow (get_or m.connect_windows i no_window)
  pub threshold_fits : m.connect_storm_threshold < 256
  pub window_fits : m.connect_storm_window_us < 2 ^ 64
  pub trackers_ranged : (i : ℕ) → RangedTracker (get_or m.ewma_trackers i no_tracker)
  pub id_fits : m.next_alert_id < 2 ^ 64
  pub inspected_fits : m.total_inspected < 2 ^ 64
  pub alerts_fit : m.total_alerts < 2 ^ 64
