-- What holds beyond `Sound` of every state that calls hand out without a load between them: each record is of the monitor's own making. A saved text may hold others (request C-23), and calls go on
-- from those too, so that nothing about saved texts may ask for this.
-- Assumes nothing.
use Rattle.std.specs.Prelude.{◌≡◌, true, List, ℕ, ◌-◌, ◌<◌, min, get_or, drop, replicate}
use Rattle.tables.specs.Buckets.{no_bucket}
use Rattle.tables.specs.Trackers.{no_tracker}
use Rattle.tables.specs.Windows.{no_window}
use Rattle.tables.specs.declared.buckets.RateBucket.{RateBucket}
use Rattle.tables.specs.declared.identity.Id.{Id}
use Rattle.tables.specs.declared.trackers.EwmaTracker.{EwmaTracker}
use Rattle.tables.specs.declared.windows.ClientStormEntry.{ClientStormEntry}
use Rattle.monitor.specs.declared.state.MqttMonitor.{MqttMonitor}

-- an identity as it is made of a topic: it keeps as many of the first bytes as there are up to 32, zeros after them
pub record OwnId (id : Id) : Type 0 where
  pub kept : id.prefix_len ≡ min id.len 32
  pub rest : drop id.prefix_len id.prefix ≡ replicate (32 - id.prefix_len) 0

-- a ring of stamps as CONNECTs fill it: the next place is one of its 16, until they are full it is behind the last, and stamps past the count are zero
pub record OwnWindow (e : ClientStormEntry) : Type 0 where
  pub next : e.write_idx < 16
  pub ring : e.count < 16 → e.write_idx ≡ e.count
  pub rest : drop e.count e.timestamps ≡ replicate (16 - e.count) 0

-- a table of such
abbrev pub OwnBuckets : List RateBucket → Type 0
OwnBuckets bs = (i : ℕ) → i < 32 → (get_or bs i no_bucket).active ≡ true → OwnId (get_or bs i no_bucket).id

abbrev pub OwnWindows : List ClientStormEntry → Type 0
OwnWindows cs = (i : ℕ) → i < 16 → OwnWindow (get_or cs i no_window)

abbrev pub OwnTrackers : List EwmaTracker → Type 0
OwnTrackers ks = (i : ℕ) → i < 16 → (get_or ks i no_tracker).active ≡ true → OwnId (get_or ks i no_tracker).id

-- a state of an unbroken history
pub record Unbroken (m : MqttMonitor) : Type 0 where
  pub buckets_own : OwnBuckets m.rate_buckets
  pub windows_own : OwnWindows m.connect_windows
  pub trackers_own : OwnTrackers m.ewma_trackers
