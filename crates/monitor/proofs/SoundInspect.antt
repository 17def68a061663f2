-- An inspection hands out a sound state where it was given one, under any matcher: what each table is asked to store keeps it sound, and no id that is counted on is
-- 0. Assumes nothing.
use mathlib.Core.Bool.{Bool, true, false}
use mathlib.Core.List.{List}
use Prim.Native.Nat.{ℕ}
use lib.Dec.{eqb, ltb}
use lib.ListN.{take}
use Rattle.laws.proofs.Cases.{by}
use Rattle.topics.specs.Hashes.{client_hashes}
use Rattle.topics.specs.Payload.{payload_hash}
use Rattle.tables.specs.Identity.{id_of}
use Rattle.monitor.specs.Inspect.{stored_at, applied, inspect_refusal, inspect_with}
use Rattle.monitor.specs.Message.{type_number, used_topic, used_payload}
use Rattle.monitor.specs.Plan.{seen_of, spent_of, fed_of, gate_in, plan_from, plan_of}
use Rattle.monitor.specs.Sound.{SoundBuckets, SoundWindows, SoundTrackers, Sound}
use Rattle.monitor.specs.declared.message.MqttMessage.{MqttMessage}
use Rattle.monitor.specs.declared.state.MqttMonitor.{MqttMonitor}
use Rattle.monitor.proofs.alerts.AlertLaws.{raised_id}
use Rattle.monitor.proofs.state.KeptFormed.{applied_formed}
use Rattle.monitor.proofs.SoundBuckets.{buckets_after}
use Rattle.monitor.proofs.SoundTrackers.{trackers_after}
use Rattle.monitor.proofs.SoundWindows.{windows_after}
use Rattle.monitor.proofs.inspection.ApplyLaws.{stored_or_not}

module _ {m : MqttMonitor} (s : Sound m) (msg : MqttMessage) (topic : List ℕ) where
  -- the tables with what they are asked to store
  seen_sound : let d = seen_of m.connect_windows m.connect_storm_threshold m.connect_storm_window_us msg topic in
      SoundWindows (stored_at 16 m.connect_windows d.at d.entry)
  unfolding seen_of
  seen_sound =
      by (eqb (type_number msg.packet_type) 1)
      (λ e. rw e (stored_or_not SoundWindows 16 m.connect_windows _ _ s.windows_sound (windows_after (client_hashes topic) _ _ _ s.windows_sound)))
      (λ e. rw e s.windows_sound)

  module _ (rate t : ℕ) where
    spent_sound : SoundBuckets (stored_at 32 m.rate_buckets (spent_of m.rate_buckets rate (id_of topic) t).at (spent_of m.rate_buckets rate (id_of topic) t).bucket)
    unfolding spent_of
    spent_sound =
        by (ltb 0 rate)
        (λ e. rw e (stored_or_not SoundBuckets 32 m.rate_buckets _ _ s.buckets_sound (buckets_after topic rate t s.buckets_sound)))
        (λ e. rw e s.buckets_sound)

  module _ (size t : ℕ) where
    fed_sound : (feeds : Bool)
        → SoundTrackers (stored_at 16 m.ewma_trackers (fed_of m.ewma_trackers feeds (id_of topic) size t).at (fed_of m.ewma_trackers feeds (id_of topic) size t).tracker)
    unfolding fed_of
    fed_sound true = stored_or_not SoundTrackers 16 m.ewma_trackers _ _ s.trackers_sound (trackers_after topic size t s.trackers_sound)
    fed_sound false = s.trackers_sound

  -- a plan applied
  applied_sound : (matcher : List ℕ → List ℕ → Bool) (payload : List ℕ) → Sound (applied m (plan_of matcher m msg topic payload))
  unfolding applied plan_of plan_from
  applied_sound matcher payload =
      let g = gate_in matcher m msg topic in
      record {
        formed = applied_formed matcher m msg topic payload s.formed;
        rules_sound = s.rules_sound;
        buckets_sound = spent_sound g.rate msg.timestamp_us;
        windows_sound = seen_sound;
        trackers_sound = fed_sound msg.payload_len msg.timestamp_us g.feeds;
        threshold_low = s.threshold_low;
        threshold_high = s.threshold_high;
        window_low = s.window_low;
        window_high = s.window_high;
        next_id = raised_id (payload_hash payload) _ _ _ _ s.next_id;
      }

-- an inspection
pub sound_inspect : (matcher : List ℕ → List ℕ → Bool) {m : MqttMonitor} → Sound m → (msg : MqttMessage) (topic payload : List ℕ)
    → Sound (inspect_with matcher m msg topic payload).monitor
unfolding inspect_with
sound_inspect matcher {m} s msg topic payload =
    by (eqb (inspect_refusal m msg topic payload) 0)
    (λ e. rw e (applied_sound s msg (take (used_topic msg) topic) matcher (take (used_payload msg) payload)))
    (λ e. rw e s)
