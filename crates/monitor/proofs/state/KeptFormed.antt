-- An inspection keeps a state well formed, so that number 10 never comes up in a run that begins without it: each record that is stored is one that was there with its
-- identity kept and its count of stamps at most 16, or a new one. Assumes nothing.
use mathlib.Core.Bool.{Bool, true, false}
use mathlib.Core.List.{List}
use mathlib.Core.Path.{◌≡◌, refl}
use Prim.Native.Nat.{ℕ, ◌≤◌}
use native.Mathlib.Omega.{arith}
use borrow.Author.Tests.{ltb-true, ltb-false}
use lib.Dec.{eqb, ltb}
use lib.ListN.{length, take}
use lib.Seq.{set_out}
use Rattle.laws.specs.Lists.{every}
use Rattle.laws.proofs.Cases.{by}
use Rattle.laws.proofs.Every.{every_at, every-set}
use Rattle.tables.specs.Buckets.{bucket_fine, decide, spend, no_bucket, empty_bucket}
use Rattle.tables.specs.Identity.{id_of}
use Rattle.tables.specs.Trackers.{tracker_fine, no_tracker}
use Rattle.tables.specs.Windows.{window_fine, no_window}
use Rattle.tables.specs.declared.buckets.RateBucket.{RateBucket}
use Rattle.tables.proofs.buckets.BucketLaws.{fine_spent, fine_made}
use Rattle.tables.proofs.buckets.StepLaws.{bucket_at, stored, first, Step, hit, put, step}
use Rattle.tables.proofs.trackers.TrackerLaws.{feed_fine}
use Rattle.tables.proofs.windows.WindowLaws.{connect_fine}
use Rattle.monitor.specs.Inspect.{applied, inspect_refusal, inspect_with}
use Rattle.monitor.specs.Message.{type_number, used_topic, used_payload}
use Rattle.monitor.specs.Plan.{seen_of, spent_of, fed_of, gate_in, plan_from, plan_of}
use Rattle.monitor.specs.State.{well_formed}
use Rattle.monitor.specs.declared.message.MqttMessage.{MqttMessage}
use Rattle.monitor.specs.declared.state.MqttMonitor.{MqttMonitor}
use Rattle.monitor.proofs.inspection.ApplyLaws.{stored_or_not}
use Rattle.monitor.proofs.state.FormedLaws.{formed_parts, parts_formed}

-- a topic's identity keeps at most 32 bytes
kept_short : (t : List ℕ) → (id_of t).prefix_len ≤ 32
unfolding id_of
kept_short t = omega arith

-- the buckets after a message of a topic
module _ (t : List ℕ) (rate now : ℕ) where
  fine_step : {T T' : List RateBucket} {ok : Bool} → every bucket_fine T ≡ true → Step T (id_of t) rate now T' ok → every bucket_fine T' ≡ true
  fine_step {T} e (hit i l h) =
      every-set bucket_fine T i (spend (bucket_at T i) now).bucket e (fine_spent (bucket_at T i) now (every_at bucket_fine T no_bucket i e l))
  fine_step {T} e (put i ok l a s) = every-set bucket_fine T i _ e (fine_made (id_of t) rate (first ok rate) now (kept_short t))

  buckets_fine : (T : List RateBucket) → every bucket_fine T ≡ true → every bucket_fine (stored T (decide T (id_of t) rate now)) ≡ true
  buckets_fine T e =
      by (ltb 0 (length T)) (λ h. fine_step e (step T (id_of t) rate now (ltb-true _ _ h)))
      (λ h. rw (set_out T (decide T (id_of t) rate now).at (decide T (id_of t) rate now).bucket (omega (arith, ltb-false 0 (length T) h))) e)

-- what each table is asked to store
module _ (m : MqttMonitor) (msg : MqttMessage) (topic : List ℕ) where
  spent_fine : (rate : ℕ) → every bucket_fine m.rate_buckets ≡ true
      → every bucket_fine (stored m.rate_buckets (spent_of m.rate_buckets rate (id_of topic) msg.timestamp_us)) ≡ true
  unfolding spent_of
  spent_fine rate e =
      by (ltb 0 rate) (λ h. rw h (buckets_fine topic rate msg.timestamp_us m.rate_buckets e))
      (λ h. rw h (every-set bucket_fine m.rate_buckets 32 empty_bucket e refl))

  seen_fine : every window_fine m.connect_windows ≡ true → window_fine (seen_of m.connect_windows m.connect_storm_threshold m.connect_storm_window_us msg topic).entry ≡ true
  unfolding seen_of
  seen_fine e = by (eqb (type_number msg.packet_type) 1) (λ h. rw h (connect_fine m.connect_windows _ _ _ _ (λ j l. every_at window_fine m.connect_windows no_window j e l))) (λ h. rw h)

  fed_fine : (feeds : Bool) → every tracker_fine m.ewma_trackers ≡ true
      → tracker_fine (fed_of m.ewma_trackers feeds (id_of topic) msg.payload_len msg.timestamp_us).tracker ≡ true
  unfolding fed_of
  fed_fine true e =
      feed_fine m.ewma_trackers (id_of topic) msg.payload_len msg.timestamp_us
      (λ j l. every_at tracker_fine m.ewma_trackers no_tracker j e l) (kept_short topic)
  fed_fine false e = refl

-- a plan applied
pub applied_formed : (matcher : List ℕ → List ℕ → Bool) (m : MqttMonitor) (msg : MqttMessage) (topic payload : List ℕ) → well_formed m ≡ true
    → well_formed (applied m (plan_of matcher m msg topic payload)) ≡ true
unfolding well_formed applied plan_of plan_from
applied_formed matcher m msg topic payload f =
    let h = formed_parts m f in
    let g = gate_in matcher m msg topic in
    let w = seen_of m.connect_windows m.connect_storm_threshold m.connect_storm_window_us msg topic in
    let k = fed_of m.ewma_trackers g.feeds (id_of topic) msg.payload_len msg.timestamp_us in
    parts_formed (applied m (plan_of matcher m msg topic payload))
    (record {
      count = h.count;
      rules_fine = h.rules_fine;
      buckets_fine = stored_or_not (λ l. every bucket_fine l ≡ true) 32 m.rate_buckets _ _ h.buckets_fine (spent_fine m msg topic g.rate h.buckets_fine);
      windows_fine =
          stored_or_not (λ l. every window_fine l ≡ true) 16 m.connect_windows w.at w.entry h.windows_fine
          (every-set window_fine m.connect_windows w.at w.entry h.windows_fine (seen_fine m msg topic h.windows_fine));
      trackers_fine =
          stored_or_not (λ l. every tracker_fine l ≡ true) 16 m.ewma_trackers k.at k.tracker h.trackers_fine
          (every-set tracker_fine m.ewma_trackers k.at k.tracker h.trackers_fine (fed_fine m msg topic g.feeds h.trackers_fine));
    })

-- an inspection
pub kept_formed : (matcher : List ℕ → List ℕ → Bool) (m : MqttMonitor) (msg : MqttMessage) (topic payload : List ℕ) → well_formed m ≡ true
    → well_formed (inspect_with matcher m msg topic payload).monitor ≡ true
unfolding inspect_with
kept_formed matcher m msg topic payload f =
    by (eqb (inspect_refusal m msg topic payload) 0)
    (λ e. rw e (applied_formed matcher m msg (take (used_topic msg) topic) (take (used_payload msg) payload) f))
    (λ e. rw e f)
