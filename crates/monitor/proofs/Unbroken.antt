-- Every call leaves the state of an unbroken history: a stored record has an identity that was made of a topic, or a ring that CONNECTs filled; all else is as it was. The topic used has at most 128
-- bytes, so that no identity's length is cut. Assumes nothing.
use mathlib.Core.Bool.{Bool, true, false, false≢true}
use mathlib.Core.List.{List}
use mathlib.Core.Path.{◌≡◌, refl, sym, ◌∙◌}
use Prim.Native.Nat.{ℕ, suc, ◌+◌, ◌-◌, ◌%◌, ◌≤◌, ◌<◌, min}
use native.Mathlib.Omega.{arith}
use borrow.Author.Tests.{ltb-true, ltb-false, eqb-true}
use lib.Dec.{eqb, ltb}
use lib.ListN.{length, get_or, take, drop, set, replicate, length-set, length-take, get_or-replicate, drop_of_length-le}
use lib.Seq.{drop_at, drop-drop, drop-set-lt}
use Rattle.laws.proofs.Cases.{by}
use Rattle.laws.proofs.Lists.{each}
use Rattle.topics.specs.Hashes.{client_hashes}
use Rattle.topics.specs.declared.hashes.ClientHashes.{ClientHashes}
use Rattle.topics.specs.declared.matching.Matching.{Matching}
use Rattle.tables.specs.Buckets.{no_bucket, empty_bucket, decide, removed_bucket}
use Rattle.tables.specs.Identity.{id_of, prefix_of}
use Rattle.tables.specs.Scan.{seat}
use Rattle.tables.specs.Trackers.{no_tracker, empty_tracker, holds_tracker, fresh_tracker, fed, feed_at, feed, removed_tracker}
use Rattle.tables.specs.Windows.{no_window, empty_window, holds_client, fresh_window, recorded, connect_at, connect}
use Rattle.tables.specs.declared.buckets.RateBucket.{RateBucket}
use Rattle.tables.specs.declared.rules.QosPolicy.{QosPolicy}
use Rattle.tables.specs.declared.rules.TopicAction.{TopicAction}
use Rattle.tables.specs.declared.trackers.EwmaTracker.{EwmaTracker}
use Rattle.tables.specs.declared.windows.ClientStormEntry.{ClientStormEntry}
use Rattle.tables.proofs.LookupLaws.{looked_up}
use Rattle.tables.proofs.ScanLaws.{seat-lt}
use Rattle.tables.proofs.buckets.BucketLaws.{keeps}
use Rattle.tables.proofs.buckets.StepLaws.{bucket_at, stored, Step, hit, put, step}
use Rattle.tables.proofs.trackers.TrackerLaws.{is_free as is_free_tracker, last_update}
use Rattle.tables.proofs.windows.WindowLaws.{is_free as is_free_window, last_seen}
use Rattle.monitor.specs.Calls.{fresh, tested, add_rule, remove_rule, swap_rules, clear_rules, set_storm, remove_bucket, remove_tracker, reset_state}
use Rattle.monitor.specs.Inspect.{stored_at, applied, inspect_refusal, inspect_with}
use Rattle.monitor.specs.Message.{type_number, used_topic, used_payload}
use Rattle.monitor.specs.Plan.{seen_of, spent_of, fed_of, gate_in, plan_from, plan_of}
use Rattle.monitor.specs.Reached.{Reached, constructed, inspected, rule_added, rule_removed, rules_swapped, rules_cleared, storm_set, bucket_removed, tracker_removed, reset, UnbrokenAlways}
use Rattle.monitor.specs.Sound.{Sound}
use Rattle.monitor.specs.State.{matcher_of, ended}
use Rattle.monitor.specs.Unbroken.{OwnId, OwnWindow, OwnBuckets, OwnWindows, OwnTrackers, Unbroken}
use Rattle.monitor.specs.declared.message.MqttMessage.{MqttMessage}
use Rattle.monitor.specs.declared.state.MqttMonitor.{MqttMonitor}
use Rattle.monitor.proofs.Reached.{reached_sound}
use Rattle.monitor.proofs.inspection.ApplyLaws.{stored_or_not}

-- the identity of a topic
own_id : (t : List ℕ) → length t < 65536 → OwnId (id_of t)
unfolding id_of prefix_of
own_id t h =
    let e : 32 - length t ≡ 32 - min (length t) 32 = omega arith in
    record {
      kept = omega arith;
      rest = drop_at (take 32 t) (replicate (32 - length t) 0) (min (length t) 32) (omega (arith, length-take 32 t)) ∙ (rw e);
    }

-- one stamp more: it goes to the place past the last until 16 are held, so that zeros stay behind it
module _ (e : ClientStormEntry) (t : ℕ) (long : length e.timestamps ≡ 16) (r : OwnWindow e) where
  -- there is room: it goes behind the last
  rest_room : e.count < 16 → drop (e.count + 1) (set e.timestamps (e.write_idx % 16) t) ≡ replicate (16 - (e.count + 1)) 0
  rest_room h =
      let w = r.ring h in
      let p : e.write_idx % 16 ≡ e.count = omega arith in
      let n : 16 - e.count ≡ suc (16 - (e.count + 1)) = omega arith in
      rw (p, drop-set-lt (e.count + 1) e.timestamps e.count t (omega arith), ← drop-drop 1 e.count e.timestamps, r.rest, n)

  -- there is none: nothing is behind the count
  rest_full : 16 ≤ e.count → drop e.count (set e.timestamps (e.write_idx % 16) t) ≡ replicate (16 - e.count) 0
  rest_full h =
      let n : 16 - e.count ≡ 0 = omega arith in
      rw n
      (drop_of_length-le (set e.timestamps (e.write_idx % 16) t) {i = e.count} (omega (arith, length-set e.timestamps (e.write_idx % 16) t)))

  recorded_own : OwnWindow (recorded e t)
  unfolding recorded
  recorded_own =
      record {
        next = omega arith;
        ring =
            by (ltb e.count 16)
            (λ c. rw c (λ h. let w = r.ring (omega arith) in omega arith))
            (λ c. rw c (λ h. absurd (omega (arith, ltb-false e.count 16 c))));
        rest = by (ltb e.count 16) (λ c. rw c (rest_room (ltb-true _ _ c))) (λ c. rw c (rest_full (ltb-false _ _ c)));
      }

-- all free
buckets_free : OwnBuckets (replicate 32 empty_bucket)
buckets_free i h e = absurd (false≢true (rw (get_or-replicate 32 i empty_bucket no_bucket h) at e))

windows_free : OwnWindows (replicate 16 empty_window)
windows_free i h = rw (get_or-replicate 16 i empty_window no_window h) (record { next = omega arith; ring = λ c. refl; rest = refl })

trackers_free : OwnTrackers (replicate 16 empty_tracker)
trackers_free i h e = absurd (false≢true (rw (get_or-replicate 16 i empty_tracker no_tracker h) at e))

-- the buckets after a message of a topic
module _ (t : List ℕ) (short : length t < 65536) (rate now : ℕ) where
  own_step : {T T' : List RateBucket} {ok : Bool} → OwnBuckets T → Step T (id_of t) rate now T' ok → OwnBuckets T'
  own_step {T} o (hit i l e) =
      let k = keeps (bucket_at T i) now in
      each no_bucket T i _ l (λ i b. i < 32 → b.active ≡ true → OwnId b.id) (λ h f. rw k.id (o i h (sym k.live ∙ f))) (λ j n. o j)
  own_step {T} o (put i ok l a s) = each no_bucket T i _ l (λ i b. i < 32 → b.active ≡ true → OwnId b.id) (λ h f. own_id t short) (λ j n. o j)

  buckets_after : (T : List RateBucket) → length T ≡ 32 → OwnBuckets T → OwnBuckets (stored T (decide T (id_of t) rate now))
  buckets_after T z o = own_step o (step T (id_of t) rate now (omega arith))

-- the trackers after a fed message of a topic
module _ (t : List ℕ) (short : length t < 65536) (size now : ℕ) (T : List EwmaTracker) (z : length T ≡ 16) (o : OwnTrackers T) where
  trackers_after : OwnTrackers (set T (feed T (id_of t) size now).at (feed T (id_of t) size now).tracker)
  unfolding feed fed holds_tracker
  trackers_after =
      looked_up (holds_tracker (id_of t)) T no_tracker (λ i k. feed_at i k size now) (seat is_free_tracker last_update T) (fresh_tracker (id_of t))
      (λ d. OwnTrackers (set T d.at d.tracker))
      (λ i l e. each no_tracker T i _ l (λ i k. i < 16 → k.active ≡ true → OwnId k.id) (λ h f. o i h f) (λ j n. o j))
      (λ none.
      each no_tracker T _ _ (seat-lt is_free_tracker last_update T no_tracker (omega arith)) (λ i k. i < 16 → k.active ≡ true → OwnId k.id)
      (λ h f. own_id t short) (λ j n. o j))

-- the windows after a CONNECT
module _ (c : ClientHashes) (t threshold window : ℕ) (T : List ClientStormEntry) (z : length T ≡ 16)
    (long : (i : ℕ) → i < 16 → length (get_or T i no_window).timestamps ≡ 16) (o : OwnWindows T) where
  windows_after : OwnWindows (set T (connect T c t threshold window).at (connect T c t threshold window).entry)
  unfolding connect
  windows_after =
      looked_up (holds_client c) T no_window (λ i e. connect_at i e t threshold window) (seat is_free_window last_seen T) (fresh_window c)
      (λ d. OwnWindows (set T d.at d.entry))
      (λ i l e. each no_window T i _ l (λ i e. i < 16 → OwnWindow e) (λ h. recorded_own (get_or T i no_window) t (long i h) (o i h)) (λ j n. o j))
      (λ none.
      each no_window T _ _ (seat-lt is_free_window last_seen T no_window (omega arith)) (λ i e. i < 16 → OwnWindow e)
      (λ h. recorded_own (fresh_window c) t refl (record { next = omega arith; ring = λ h. refl; rest = refl })) (λ j n. o j))

-- an inspection
module _ {m : MqttMonitor} (s : Sound m) (o : Unbroken m) where
  module _ (msg : MqttMessage) (topic : List ℕ) (short : length topic < 65536) where
    seen_own : let d = seen_of m.connect_windows m.connect_storm_threshold m.connect_storm_window_us msg topic in
        OwnWindows (stored_at 16 m.connect_windows d.at d.entry)
    unfolding seen_of
    seen_own =
        by (eqb (type_number msg.packet_type) 1)
        (λ e. rw e
        (stored_or_not OwnWindows 16 m.connect_windows _ _ o.windows_own
        (windows_after (client_hashes topic) _ _ _ m.connect_windows s.windows_sound.size s.windows_sound.long o.windows_own)))
        (λ e. rw e o.windows_own)

    spent_own : (rate t : ℕ)
        → OwnBuckets (stored_at 32 m.rate_buckets (spent_of m.rate_buckets rate (id_of topic) t).at (spent_of m.rate_buckets rate (id_of topic) t).bucket)
    unfolding spent_of
    spent_own rate t =
        by (ltb 0 rate)
        (λ e. rw e
        (stored_or_not OwnBuckets 32 m.rate_buckets _ _ o.buckets_own (buckets_after topic short rate t m.rate_buckets s.buckets_sound.size o.buckets_own)))
        (λ e. rw e o.buckets_own)

    fed_own : (size t : ℕ) (feeds : Bool)
        → OwnTrackers (stored_at 16 m.ewma_trackers (fed_of m.ewma_trackers feeds (id_of topic) size t).at (fed_of m.ewma_trackers feeds (id_of topic) size t).tracker)
    unfolding fed_of
    fed_own size t true =
        stored_or_not OwnTrackers 16 m.ewma_trackers _ _ o.trackers_own (trackers_after topic short size t m.ewma_trackers s.trackers_sound.size o.trackers_own)
    fed_own size t false = o.trackers_own

    applied_own : (matcher : List ℕ → List ℕ → Bool) (payload : List ℕ) → Unbroken (applied m (plan_of matcher m msg topic payload))
    unfolding applied plan_of plan_from
    applied_own matcher payload =
        let g = gate_in matcher m msg topic in
        record {
          buckets_own = spent_own g.rate msg.timestamp_us;
          windows_own = seen_own;
          trackers_own = fed_own msg.payload_len msg.timestamp_us g.feeds;
        }

  own_inspect : (matcher : List ℕ → List ℕ → Bool) (msg : MqttMessage) (topic payload : List ℕ) → Unbroken (inspect_with matcher m msg topic payload).monitor
  unfolding inspect_with
  own_inspect matcher msg topic payload =
      by (eqb (inspect_refusal m msg topic payload) 0)
      (λ e.
      let short : length (take (used_topic msg) topic) < 65536 = omega (arith, length-take (used_topic msg) topic) in
      rw e (applied_own msg (take (used_topic msg) topic) short matcher (take (used_payload msg) payload)))
      (λ e. rw e o)

-- any other call: refused, the state is as given; else its own number is 0
module _ {m : MqttMonitor} (s : Sound m) (o : Unbroken m) where
  called : (number value : ℕ) (next : MqttMonitor) → (number ≡ 0 → Unbroken next) → Unbroken (ended (tested m number) m value next).monitor
  called number value next f =
      rw s.formed (by (eqb number 0) (λ e. rw e (f (eqb-true _ _ e))) (λ e. rw e o))

  -- rules and settings are no matter
  like : {n : MqttMonitor} → n.rate_buckets ≡ m.rate_buckets → n.connect_windows ≡ m.connect_windows → n.ewma_trackers ≡ m.ewma_trackers → Unbroken n
  like b w k = record { buckets_own = rw b o.buckets_own; windows_own = rw w o.windows_own; trackers_own = rw k o.trackers_own }

  own_add : (p : List ℕ) (action : TopicAction) (policy : QosPolicy) (rate : ℕ) → Unbroken (add_rule m p action policy rate).monitor
  unfolding add_rule
  own_add p action policy rate = called _ _ _ (λ z. like refl refl refl)

  own_remove : (at : ℕ) → Unbroken (remove_rule m at).monitor
  unfolding remove_rule
  own_remove at = called _ _ _ (λ z. like refl refl refl)

  own_swap : (a b : ℕ) → Unbroken (swap_rules m a b).monitor
  unfolding swap_rules
  own_swap a b = called _ _ _ (λ z. like refl refl refl)

  own_clear : Unbroken (clear_rules m).monitor
  unfolding clear_rules
  own_clear = called _ _ _ (λ z. like refl refl refl)

  own_storm : (threshold window : ℕ) → Unbroken (set_storm m threshold window).monitor
  unfolding set_storm
  own_storm threshold window = called _ _ _ (λ z. like refl refl refl)

  own_bucket : (topic : List ℕ) → Unbroken (remove_bucket m topic).monitor
  unfolding remove_bucket
  own_bucket topic =
      let at = removed_bucket (id_of topic) m.rate_buckets in
      let z = s.buckets_sound.size in
      called _ _ _
      (by (ltb at 32)
      (λ e. rw e (λ n. record {
        buckets_own =
            each no_bucket m.rate_buckets at empty_bucket (omega (arith, ltb-true at 32 e)) (λ i b. i < 32 → b.active ≡ true → OwnId b.id)
            (λ h f. absurd (false≢true f)) (λ j n. o.buckets_own j);
        windows_own = o.windows_own;
        trackers_own = o.trackers_own;
      }))
      (λ e. rw e (λ n. absurd (omega arith))))

  own_tracker : (topic : List ℕ) → Unbroken (remove_tracker m topic).monitor
  unfolding remove_tracker
  own_tracker topic =
      let at = removed_tracker (id_of topic) m.ewma_trackers in
      let z = s.trackers_sound.size in
      called _ _ _
      (by (ltb at 16)
      (λ e. rw e (λ n. record {
        buckets_own = o.buckets_own;
        windows_own = o.windows_own;
        trackers_own =
            each no_tracker m.ewma_trackers at empty_tracker (omega (arith, ltb-true at 16 e)) (λ i k. i < 16 → k.active ≡ true → OwnId k.id)
            (λ h f. absurd (false≢true f)) (λ j n. o.trackers_own j);
      }))
      (λ e. rw e (λ n. absurd (omega arith))))

  own_reset : Unbroken (reset_state m).monitor
  unfolding reset_state
  own_reset = called _ _ _ (λ z. record { buckets_own = buckets_free; windows_own = windows_free; trackers_own = trackers_free })

-- a constructor
own_fresh : (matching : Matching) (default : TopicAction) → Unbroken (fresh matching default)
unfolding fresh
own_fresh matching default = record { buckets_own = buckets_free; windows_own = windows_free; trackers_own = trackers_free }

reached_own : {m : MqttMonitor} → Reached m → Unbroken m
reached_own (constructed matching default) = own_fresh matching default
reached_own (inspected {m} msg topic payload r) = own_inspect (reached_sound r) (reached_own r) (matcher_of m) msg topic payload
reached_own (rule_added pattern action policy rate r) = own_add (reached_sound r) (reached_own r) pattern action policy rate
reached_own (rule_removed at r) = own_remove (reached_sound r) (reached_own r) at
reached_own (rules_swapped a b r) = own_swap (reached_sound r) (reached_own r) a b
reached_own (rules_cleared r) = own_clear (reached_sound r) (reached_own r)
reached_own (storm_set threshold window r) = own_storm (reached_sound r) (reached_own r) threshold window
reached_own (bucket_removed topic r) = own_bucket (reached_sound r) (reached_own r) topic
reached_own (tracker_removed topic r) = own_tracker (reached_sound r) (reached_own r) topic
reached_own (reset r) = own_reset (reached_sound r) (reached_own r)

pub unbroken_always : UnbrokenAlways
unbroken_always m r = reached_own r
