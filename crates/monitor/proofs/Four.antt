-- Document 01, "Order inside one inspection": at most four alerts, and none is dropped. What a message raises is exactly the kinds of what was found of it, in
-- their order. Under any matcher. Assumes nothing.
use mathlib.Core.Bool.{Bool}
use mathlib.Core.List.{List, [], ◌∷◌, ◌++◌, foldl, append-nil, append_assoc, map-append}
use mathlib.Core.Path.{◌≡◌, refl, sym, ◌∙◌}
use Prim.Native.Nat.{ℕ, ◌+◌, ◌≤◌, ◌<◌}
use native.Mathlib.Numerals.{add-one}
use native.Mathlib.Omega.{arith}
use borrow.Author.Tests.{lt-ltb}
use lib.Dec.{eqb, ltb}
use lib.ListN.{length, take, length-set}
use lib.Seq.{take-suc-set}
use Rattle.laws.proofs.Cases.{by}
use Rattle.topics.specs.Payload.{payload_hash}
use Rattle.monitor.specs.Alerts.{kinds_of, kinds_among, alert_of, none_raised, raise, raise_all}
use Rattle.monitor.specs.Inspect.{inspect_refusal, inspect_with}
use Rattle.monitor.specs.Message.{used_topic, used_payload}
use Rattle.monitor.specs.Plan.{plan_from, plan_of, findings_in}
use Rattle.monitor.specs.Told.{AtMostFour, NoneDropped}
use Rattle.monitor.specs.declared.alerts.Raised.{Raised}
use Rattle.monitor.specs.declared.message.MqttMessage.{MqttMessage}
use Rattle.monitor.specs.declared.state.MqttMonitor.{MqttMonitor}
use Rattle.monitor.proofs.alerts.AlertLaws.{four, raised_count}
use Rattle.monitor.proofs.FoundLaws.{found_apart}

-- the kinds of the alerts so far, after one more, after many, and from none
module _ (hash : List ℕ) (t : ℕ) where
  told_one : (a : Raised) (k : ℕ) → a.count < 4 → length a.alerts ≡ 4
      → kinds_among (raise hash t a k).count (raise hash t a k).alerts ≡ kinds_among a.count a.alerts ++ (k ∷ [])
  unfolding raise kinds_among
  told_one a k h l =
      let r : a.count < length a.alerts = omega arith in
      rw (lt-ltb a.count 4 h, add-one, take-suc-set a.alerts a.count (alert_of hash t a.next_id k) r)
      (map-append (λ x. x.source_id) (take a.count a.alerts) _)

  told_count : (a : Raised) (k : ℕ) → a.count < 4 → (raise hash t a k).count ≡ a.count + 1
  unfolding raise
  told_count a k h = rw (lt-ltb a.count 4 h)

  room : (a : Raised) (k : ℕ) → length a.alerts ≡ 4 → length (raise hash t a k).alerts ≡ 4
  unfolding raise
  room a k l = by (ltb a.count 4) (λ e. rw (e, length-set) l) (λ e. rw e l)

  told_from : (kinds : List ℕ) (a : Raised) → a.count + length kinds ≤ 4 → length a.alerts ≡ 4
      → kinds_among (foldl (raise hash t) a kinds).count (foldl (raise hash t) a kinds).alerts ≡ kinds_among a.count a.alerts ++ kinds
  told_from [] a h l = sym (append-nil _)
  told_from (k ∷ ks) a h l =
      let c = told_count a k (omega arith) in
      told_from ks (raise hash t a k) (omega arith) (room a k l)
      ∙ rw (told_one a k (omega arith) l) (append_assoc (kinds_among a.count a.alerts) (k ∷ []) ks)

  told_all : (id total : ℕ) (kinds : List ℕ) → length kinds ≤ 4
      → kinds_among (raise_all hash t id total kinds).count (raise_all hash t id total kinds).alerts ≡ kinds
  unfolding raise_all kinds_among
  told_all id total kinds h = told_from kinds (none_raised id total) (omega arith) refl

module _ (matcher : List ℕ → List ℕ → Bool) (m : MqttMonitor) (msg : MqttMessage) (topic payload : List ℕ) where
  -- at most four kinds
  pub at_most_four : length (kinds_of (findings_in matcher m msg topic payload)) ≤ 4
  at_most_four = four (findings_in matcher m msg topic payload) (found_apart matcher m msg topic payload)

  -- as many alerts
  pub all_counted : (plan_of matcher m msg topic payload).raised.count ≡ length (kinds_of (findings_in matcher m msg topic payload))
  unfolding plan_of plan_from
  all_counted =
      raised_count (payload_hash payload) msg.timestamp_us m.next_alert_id m.total_alerts
      (kinds_of (findings_in matcher m msg topic payload)) at_most_four

  -- and theirs are the kinds, in their order
  pub all_told : kinds_among (plan_of matcher m msg topic payload).raised.count (plan_of matcher m msg topic payload).raised.alerts
      ≡ kinds_of (findings_in matcher m msg topic payload)
  unfolding plan_of plan_from
  all_told =
      told_all (payload_hash payload) msg.timestamp_us m.next_alert_id m.total_alerts
      (kinds_of (findings_in matcher m msg topic payload)) at_most_four

pub four_at_most : AtMostFour
unfolding inspect_with
four_at_most matcher m c =
    let topic = take (used_topic c.msg) c.topic in
    let payload = take (used_payload c.msg) c.payload in
    by (eqb (inspect_refusal m c.msg c.topic c.payload) 0)
    (λ e. rw (e, all_counted matcher m c.msg topic payload) (at_most_four matcher m c.msg topic payload))
    (λ e. rw e (omega arith))

pub none_dropped : NoneDropped
unfolding inspect_with
none_dropped matcher m c z = rw z (all_told matcher m c.msg (take (used_topic c.msg) c.topic) (take (used_payload c.msg) c.payload))
