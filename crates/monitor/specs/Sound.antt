-- What holds of every state that calls hand out, beyond number 10's test (document 01, "Numbers handed back": "reached from a constructor or a load by calls alone").
-- It is what a saved text needs, and no more (requests C-13, C-23): sizes, free places and unused bytes all zero, nothing held twice, settings in their ranges. A state that was loaded from a text
-- can have it too; what only a history without a load has is in Unbroken.antt.
-- Assumes nothing.
use Rattle.std.specs.Prelude.{◌≡◌, Bool, true, false, ◌&&◌, List, ℕ, ◌-◌, ◌≤◌, ◌<◌, eqb, length, get_or, drop, replicate}
use Rattle.slices.specs.Bytes.{same}
use Rattle.tables.specs.Buckets.{no_bucket, empty_bucket}
use Rattle.tables.specs.Rules.{pattern_of, no_rule, empty_rule}
use Rattle.tables.specs.Trackers.{no_tracker, empty_tracker}
use Rattle.tables.specs.Windows.{no_window, empty_window}
use Rattle.tables.specs.declared.identity.Id.{Id}
use Rattle.tables.specs.declared.buckets.RateBucket.{RateBucket}
use Rattle.tables.specs.declared.rules.TopicRule.{TopicRule}
use Rattle.tables.specs.declared.trackers.EwmaTracker.{EwmaTracker}
use Rattle.tables.specs.declared.windows.ClientStormEntry.{ClientStormEntry}
use Rattle.monitor.specs.State.{well_formed}
use Rattle.monitor.specs.declared.state.MqttMonitor.{MqttMonitor}

-- two held records are of one identity: all its fields are equal
unfoldable pub same_id : Id → Id → Bool
same_id a b =
    eqb a.hash b.hash && eqb a.hash2 b.hash2 && eqb a.len b.len && eqb a.suffix_hash b.suffix_hash
    && eqb a.prefix_len b.prefix_len && same a.prefix b.prefix

-- two held windows are of one client
unfoldable pub same_client : ClientStormEntry → ClientStormEntry → Bool
same_client a b = eqb a.client_hash b.client_hash && eqb a.client_hash2 b.client_hash2

-- the rules: those past the count are empty, patterns have zeros after them, no pattern is held twice
pub record SoundRules (rules : List TopicRule) (n : ℕ) : Type 0 where
  pub size : length rules ≡ 32
  pub free : (i : ℕ) → n ≤ i → i < 32 → get_or rules i no_rule ≡ empty_rule
  pub long : (i : ℕ) → i < 32 → length (get_or rules i no_rule).pattern ≡ 64
  pub rest : (i : ℕ) → i < 32 → drop (get_or rules i no_rule).pattern_len (get_or rules i no_rule).pattern ≡ replicate (64 - (get_or rules i no_rule).pattern_len) 0
  pub apart : (i j : ℕ) → i < j → j < n → same (pattern_of (get_or rules i no_rule)) (pattern_of (get_or rules j no_rule)) ≡ false

-- the buckets: free places are empty, prefixes have all 32 bytes, tokens are at most the capacity, a remainder is no whole token, no identity is held twice
pub record SoundBuckets (bs : List RateBucket) : Type 0 where
  pub size : length bs ≡ 32
  pub free : (i : ℕ) → i < 32 → (get_or bs i no_bucket).active ≡ false → get_or bs i no_bucket ≡ empty_bucket
  pub long : (i : ℕ) → i < 32 → length (get_or bs i no_bucket).id.prefix ≡ 32
  pub full : (i : ℕ) → i < 32 → (get_or bs i no_bucket).tokens ≤ (get_or bs i no_bucket).capacity
  pub rest : (i : ℕ) → i < 32 → (get_or bs i no_bucket).remainder ≤ 999999
  pub apart :
      (i j : ℕ) → i < j → j < 32 → (get_or bs i no_bucket).active ≡ true → (get_or bs j no_bucket).active ≡ true
      → same_id (get_or bs i no_bucket).id (get_or bs j no_bucket).id ≡ false

-- the CONNECT windows: free places are empty, all 16 stamps are there, no client is held twice
pub record SoundWindows (cs : List ClientStormEntry) : Type 0 where
  pub size : length cs ≡ 16
  pub free : (i : ℕ) → i < 16 → (get_or cs i no_window).active ≡ false → get_or cs i no_window ≡ empty_window
  pub long : (i : ℕ) → i < 16 → length (get_or cs i no_window).timestamps ≡ 16
  pub apart :
      (i j : ℕ) → i < j → j < 16 → (get_or cs i no_window).active ≡ true → (get_or cs j no_window).active ≡ true
      → same_client (get_or cs i no_window) (get_or cs j no_window) ≡ false

-- the payload trackers: free places are empty, prefixes have all 32 bytes, no identity is held twice
pub record SoundTrackers (ks : List EwmaTracker) : Type 0 where
  pub size : length ks ≡ 16
  pub free : (i : ℕ) → i < 16 → (get_or ks i no_tracker).active ≡ false → get_or ks i no_tracker ≡ empty_tracker
  pub long : (i : ℕ) → i < 16 → length (get_or ks i no_tracker).id.prefix ≡ 32
  pub apart :
      (i j : ℕ) → i < j → j < 16 → (get_or ks i no_tracker).active ≡ true → (get_or ks j no_tracker).active ≡ true
      → same_id (get_or ks i no_tracker).id (get_or ks j no_tracker).id ≡ false

-- a state that calls handed out
pub record Sound (m : MqttMonitor) : Type 0 where
  pub formed : well_formed m ≡ true
  pub rules_sound : SoundRules m.rules m.rule_count
  pub buckets_sound : SoundBuckets m.rate_buckets
  pub windows_sound : SoundWindows m.connect_windows
  pub trackers_sound : SoundTrackers m.ewma_trackers
  pub threshold_low : 2 ≤ m.connect_storm_threshold
  pub threshold_high : m.connect_storm_threshold ≤ 16
  pub window_low : 1000000 ≤ m.connect_storm_window_us
  pub window_high : m.connect_storm_window_us ≤ 600000000
  pub next_id : m.next_alert_id ≡ 0 → ⊥
