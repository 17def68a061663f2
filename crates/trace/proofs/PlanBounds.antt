-- What a plan raises is within the types of an alert and of the counters, whatever the message: so a message's record is at most 528 bytes (`result_short`), and the counters stay below 2 ^ 64
-- (`applied_counted`). Assumes nothing.
use Prim.Native.Nat.{ℕ, zero, suc, ◌+◌, ◌*◌, ◌%◌, ◌^◌, ◌≤◌, ◌<◌}
use mathlib.Core.Path.{◌≡◌, refl}
use mathlib.Core.Bool.{Bool, true, false, ◌||◌, false≢true}
use mathlib.Core.List.{List, [], ◌∷◌, ◌++◌, foldl}
use native.Mathlib.Omega.{arith}
use lib.Dec.{eqb, ltb}
use lib.ListN.{length, take, set, length-append, length-set, length-take}
use borrow.Author.Tests.{ltb-true, ne_eqb}
use Rattle.laws.proofs.Cases.{by, by_le, whichever}
use Rattle.topics.specs.Payload.{payload_hash}
use Rattle.topics.proofs.hashes.HashLaws.{payload_length}
use Rattle.monitor.specs.Alerts.{denies, hash_of, when, kinds_of, no_alert, none_raised, raise, raise_all}
use Rattle.monitor.specs.Inspect.{applied, result_of}
use Rattle.monitor.specs.Plan.{plan_from, plan_of}
use Rattle.monitor.specs.declared.alerts.Findings.{Findings}
use Rattle.monitor.specs.declared.alerts.Raised.{Raised}
use Rattle.monitor.specs.declared.alerts.SecurityAlert.{SecurityAlert}
use Rattle.monitor.specs.declared.message.MqttMessage.{MqttMessage}
use Rattle.monitor.specs.declared.state.MqttMonitor.{MqttMonitor}
use Rattle.monitor.proofs.FoundLaws.{Settled, found_settled}
use Rattle.trace.specs.Record.{alerts_text, record_text}
use Rattle.trace.proofs.record.RecordLaws.{Typed, alert_short, record_short}

-- kinds are 1 to 11
data Small : List ℕ → Type 0 where
  none : Small []
  more : {k : ℕ} {l : List ℕ} → k ≤ 11 → Small l → Small (k ∷ l)

small_append : {a b : List ℕ} → Small a → Small b → Small (a ++ b)
small_append none t = t
small_append (more h s) t = more h (small_append s t)

small_when : (b : Bool) (k : ℕ) → k ≤ 11 → Small (when b k)
small_when true k h = more h none
small_when false k h = none

kinds_small : (f : Findings) → f.denial ≤ 11 → Small (kinds_of f)
unfolding kinds_of
kinds_small f h =
    small_append
    (small_append
    (small_append (small_append (small_when f.clock 8 (omega arith)) (small_when f.broad 11 (omega arith))) (small_when f.qos 4 (omega arith)))
    (small_when (ltb 0 f.denial) f.denial h))
    (small_when f.anomaly 7 (omega arith))

-- a kind that denies is one of them
settled_small : (k : ℕ) → Settled k → k ≤ 11
unfolding denies
settled_small k s =
    by_le k 11 (λ h. h)
    (λ h.
    absurd
    (false≢true
    (rw (
      ne_eqb k 0 (λ e. omega arith),
      ne_eqb k 1 (λ e. omega arith),
      ne_eqb k 2 (λ e. omega arith),
      ne_eqb k 3 (λ e. omega arith),
      ne_eqb k 5 (λ e. omega arith),
      ne_eqb k 6 (λ e. omega arith),
      ne_eqb k 9 (λ e. omega arith),
      ne_eqb k 10 (λ e. omega arith),
    )
    at s)))

-- alerts, each as its type has it
pub data AllTyped : List SecurityAlert → Type 0 where
  none : AllTyped []
  more : {a : SecurityAlert} {l : List SecurityAlert} → Typed a → AllTyped l → AllTyped (a ∷ l)

all_set : {l : List SecurityAlert} (i : ℕ) {a : SecurityAlert} → Typed a → AllTyped l → AllTyped (set l i a)
all_set i t none = none
all_set zero t (more u l) = more t l
all_set (suc i) t (more u l) = more u (all_set i t l)

all_take : {l : List SecurityAlert} (i : ℕ) → AllTyped l → AllTyped (take i l)
all_take zero l = none
all_take (suc i) none = none
all_take (suc i) (more t l) = more t (all_take i l)

alerts_short : {l : List SecurityAlert} → AllTyped l → length (alerts_text l) ≤ 121 * length l
unfolding alerts_text
alerts_short none = omega arith
alerts_short (more {a} {l} t u) = rw length-append (omega (arith, alert_short a t, alerts_short u))

-- the alerts of a message and the counters after them, as their types have them
pub record Bounded (r : Raised) : Type 0 where
  pub count : r.count ≤ 4
  pub long : length r.alerts ≡ 4
  pub typed : AllTyped r.alerts
  pub id64 : r.next_id < 2 ^ 64
  pub total64 : r.total < 2 ^ 64

none_bounded : (id total : ℕ) → id < 2 ^ 64 → total < 2 ^ 64 → Bounded (none_raised id total)
none_bounded id total h g =
    let t : Typed no_alert = record { id64 = omega arith; kind32 = omega arith; hash32 = refl } in
    record { count = omega arith; long = refl; typed = more t (more t (more t (more t none))); id64 = h; total64 = g }

module _ (hash : List ℕ) (long : length hash ≡ 32) (time : ℕ) where
  raise_bounded : {r : Raised} (k : ℕ) → k ≤ 11 → Bounded r → Bounded (raise hash time r k)
  unfolding raise hash_of
  raise_bounded {r} k h b =
      by (ltb r.count 4)
      (λ t.
      let c : r.count < 4 = ltb-true _ _ t in
      rw t
      (record {
        count = omega arith;
        long = simp length-set b.long;
        typed =
            all_set r.count
            (record { id64 = b.id64; kind32 = omega arith; hash32 = whichever (λ (l : List ℕ). length l ≡ 32) (eqb k 3 || eqb k 7) long refl })
            b.typed;
        id64 = whichever (λ (n : ℕ). n < 2 ^ 64) (eqb ((r.next_id + 1) % 2 ^ 64) 0) (omega arith) (omega arith);
        total64 = omega arith;
      }))
      (λ t. rw t b)

  fold_bounded : {r : Raised} {ks : List ℕ} → Small ks → Bounded r → Bounded (foldl (raise hash time) r ks)
  fold_bounded none b = b
  fold_bounded {r = r} (more {k} h s) b = fold_bounded {r = raise hash time r k} s (raise_bounded k h b)

-- the counters of a state, as their types have them
pub record Counted (m : MqttMonitor) : Type 0 where
  pub id64 : m.next_alert_id < 2 ^ 64
  pub inspected64 : m.total_inspected < 2 ^ 64
  pub total64 : m.total_alerts < 2 ^ 64

module _ (matcher : List ℕ → List ℕ → Bool) (m : MqttMonitor) (msg : MqttMessage) (topic payload : List ℕ) (c : Counted m) where
  plan_bounded : Bounded (plan_of matcher m msg topic payload).raised
  unfolding plan_of plan_from raise_all
  plan_bounded =
      fold_bounded (payload_hash payload) (payload_length payload) msg.timestamp_us
      (kinds_small _ (settled_small _ (found_settled matcher m msg topic payload)))
      (none_bounded m.next_alert_id m.total_alerts c.id64 c.total64)

  pub applied_counted : Counted (applied m (plan_of matcher m msg topic payload))
  unfolding applied
  applied_counted =
      record { id64 = plan_bounded.id64; inspected64 = omega arith; total64 = plan_bounded.total64 }

  pub result_short : (n : ℕ) → n < 2 ^ 64 → length (record_text n (result_of (plan_of matcher m msg topic payload))) ≤ 528
  result_short n h =
      let p = plan_of matcher m msg topic payload in
      let b = plan_bounded in
      let l : length (alerts_text (take p.raised.count p.raised.alerts)) ≤ 484 =
      omega (arith, alerts_short (all_take p.raised.count b.typed), length-take p.raised.count p.raised.alerts, b.long) in
      record_short n (result_of p) h (omega (arith, b.count)) l
