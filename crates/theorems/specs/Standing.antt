-- Where the limit stands (`monitor`'s specs/Standing.antt, the calls `standing` and `tokens_left`), claimed of the shipped `inspect`: for every Publish of a topic that it does not refuse, at every
-- time, whatever its QoS, its size, its payload and the verdict on its clock. The proofs are in proofs/Standing.antt. That the public calls are these definitions is their contracts' own
-- word (proofs/AnswersMonitor.antt).
-- Assumes nothing.
use Rattle.std.specs.Prelude.{◌≡◌, false, true, ℕ, ◌+◌, ◌/◌, ◌^◌, ◌<◌, length, get_or, set}
use Rattle.tables.specs.Buckets.{no_bucket, holds_bucket, made}
use Rattle.tables.specs.Identity.{id_of}
use Rattle.tables.specs.Scan.{find}
use Rattle.tables.specs.Standing.{opens, later_by, oldest_live}
use Rattle.tables.specs.declared.buckets.RateBucket.{RateBucket}
use Rattle.monitor.specs.Runs.{Call, shipped}
use Rattle.monitor.specs.Standing.{stands_at, standing_in, kind_at, left_in, Left, Outlook}
use Rattle.monitor.specs.State.{matcher_of}
use Rattle.monitor.specs.Told.{Taken, found_of}
use Rattle.monitor.specs.declared.state.MqttMonitor.{MqttMonitor}
use Rattle.theorems.specs.Run.{time, used, is_publish}
use Rattle.theorems.specs.Shipped.{passes}

-- a Publish that is not refused. The table has 32 places and a time 64 bits, as their types have it
pub record Published (m : MqttMonitor) (c : Call) : Type 0 where
  pub table : length m.rate_buckets ≡ 32
  pub fits : time c < 2 ^ 64
  pub publish : is_publish c ≡ true
  pub taken : Taken m c

-- where its topic stands before it, and after it
abbrev pub before : MqttMonitor → Call → Outlook
before m c = standing_in m (used c)

abbrev pub after : MqttMonitor → Call → Outlook
after m c = standing_in (shipped m c).monitor (used c)

-- the one kind that denies it, 0 for none
abbrev pub denial : MqttMonitor → Call → ℕ
denial m c = (found_of (matcher_of m) m c).denial

-- what `tokens_left` says of it, and its topic's bucket after it
abbrev pub said : MqttMonitor → Call → Left
said m c = left_in m (used c) (time c)

abbrev pub bucket_then : MqttMonitor → Call → RateBucket
bucket_then m c =
    let bs = (shipped m c).monitor.rate_buckets in get_or bs (find (holds_bucket (id_of (used c))) bs) no_bucket

pub record Standing : Type 0 where
  -- it is allowed exactly when the time has come
  pub exact : (m : MqttMonitor) (c : Call) → Published m c → passes shipped m c ≡ opens (before m c).opening (time c)
  -- and before that it is denied by the kind that is said
  pub by_kind : (m : MqttMonitor) (c : Call) → Published m c → denial m c ≡ kind_at (before m c) (time c)
  -- trying does not prolong the wait: who is denied, and not by 6, stands where it stood
  pub tries : (m : MqttMonitor) (c : Call) → Published m c → passes shipped m c ≡ false → ((before m c).kind ≡ 6 → ⊥) → after m c ≡ before m c
  -- a newcomer that is denied with 6 has a bucket then, and stands at most one token later: at the first microsecond at which its rate has earned one
  pub newcomer :
      (m : MqttMonitor) (c : Call) → Published m c → passes shipped m c ≡ false → (before m c).kind ≡ 6
      → after m c ≡ stands_at 0 5 (before m c).rate (later_by (time c) (999999 / (before m c).rate + 1))
  -- and the place that it takes is that of the oldest, the first in the list of who holds the places; no other place moves
  pub gives_way :
      (m : MqttMonitor) (c : Call) → Published m c → passes shipped m c ≡ false → (before m c).kind ≡ 6
      → (shipped m c).monitor.rate_buckets
      ≡ set m.rate_buckets (oldest_live m.rate_buckets) (made (id_of (used c)) (before m c).rate 0 (time c))
  -- what `tokens_left` says of a time is what a message then meets: the kind that denies it
  pub left_kind : (m : MqttMonitor) (c : Call) → Published m c → denial m c ≡ (said m c).kind
  -- and the tokens that its topic's bucket has after it, where the limiter counts it
  pub left_tokens : (m : MqttMonitor) (c : Call) → Published m c → 0 < (said m c).rate → (bucket_then m c).tokens ≡ (said m c).tokens
