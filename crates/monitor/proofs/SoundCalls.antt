-- Every call hands out a sound state where it was given one, under any matcher, and the constructors do from nothing. A refused call hands the state back as given.
-- Assumes nothing.
use mathlib.Core.Bool.{true, ◌&&◌}
use mathlib.Core.List.{List}
use mathlib.Core.Path.{◌≡◌, refl}
use Prim.Native.Nat.{ℕ}
use native.Mathlib.Omega.{arith}
use borrow.Author.Tests.{ltb-true, eqb-true}
use lib.Dec.{eqb, ltb}
use Rattle.laws.specs.Lists.{every}
use Rattle.laws.proofs.Tests.{both}
use Rattle.laws.proofs.Cases.{by}
use Rattle.laws.proofs.Every.{every-set, every_first, first_every}
use Rattle.topics.specs.declared.matching.Matching.{Matching}
use Rattle.tables.specs.Buckets.{bucket_fine, empty_bucket, removed_bucket}
use Rattle.tables.specs.Identity.{id_of}
use Rattle.tables.specs.Rules.{equal_rule, rule_fine, no_rule, rule_plan}
use Rattle.tables.specs.Trackers.{tracker_fine, empty_tracker, removed_tracker}
use Rattle.tables.specs.Windows.{window_fine}
use Rattle.tables.specs.declared.buckets.RateBucket.{RateBucket}
use Rattle.tables.specs.declared.rules.QosPolicy.{QosPolicy}
use Rattle.tables.specs.declared.rules.TopicAction.{TopicAction}
use Rattle.tables.specs.declared.rules.TopicRule.{TopicRule}
use Rattle.tables.specs.declared.trackers.EwmaTracker.{EwmaTracker}
use Rattle.tables.specs.declared.windows.ClientStormEntry.{ClientStormEntry}
use Rattle.tables.proofs.rules.PlanLaws.{plan_cases}
use Rattle.monitor.specs.Calls.{fresh, tested, with_rule, add_rule, remove_rule, swap_rules, clear_rules, set_storm, remove_bucket, remove_tracker, reset_state}
use Rattle.monitor.specs.Sound.{SoundBuckets, SoundWindows, SoundTrackers, Sound}
use Rattle.monitor.specs.State.{well_formed, with_rules, with_settings, with_tables, with_counters, ended}
use Rattle.monitor.specs.declared.state.MqttMonitor.{MqttMonitor}
use Rattle.monitor.proofs.state.FormedLaws.{formed_parts, parts_formed}
use Rattle.monitor.proofs.SoundBuckets.{buckets_fresh, bucket_removed}
use Rattle.monitor.proofs.SoundMoves.{rule_removed, rules_exchanged}
use Rattle.monitor.proofs.SoundRules.{Ruled, no_rules, rule_overwritten, rule_added}
use Rattle.monitor.proofs.SoundTrackers.{trackers_fresh, tracker_removed}
use Rattle.monitor.proofs.SoundWindows.{windows_fresh}

-- a constructor
pub sound_fresh : (matching : Matching) (default : TopicAction) → Sound (fresh matching default)
unfolding fresh well_formed every
sound_fresh matching default =
    record {
      formed = refl;
      rules_sound = no_rules.sound;
      buckets_sound = buckets_fresh;
      windows_sound = windows_fresh;
      trackers_sound = trackers_fresh;
      threshold_low = omega arith;
      threshold_high = omega arith;
      window_low = omega arith;
      window_high = omega arith;
      next_id = λ e. omega arith;
    }

module _ {m : MqttMonitor} (s : Sound m) where
  -- a call: refused, the state is as given; else its own number is 0
  called : (number value : ℕ) (next : MqttMonitor) → (number ≡ 0 → Sound next) → Sound (ended (tested m number) m value next).monitor
  called number value next f =
      rw s.formed (by (eqb number 0) (λ e. rw e (f (eqb-true _ _ e))) (λ e. rw e s))

  -- its rules
  ruled : Ruled m.rules m.rule_count
  ruled =
      let f = formed_parts m s.formed in
      let z = s.rules_sound.size in
      record {
        sound = s.rules_sound;
        count = f.count;
        fine = every_first rule_fine m.rules no_rule m.rule_count (let c = f.count in omega arith) f.rules_fine;
      }

  -- other rules
  with_rules_lem : {rules : List TopicRule} {n : ℕ} → Ruled rules n → Sound (with_rules m rules n)
  with_rules_lem {rules} {n} r =
      let f = formed_parts m s.formed in
      let c = r.count in
      let z = r.sound.size in
      record {
        formed =
            parts_formed (with_rules m rules n)
            (record {
              count = c;
              rules_fine = first_every rule_fine rules no_rule n (omega arith) r.fine;
              buckets_fine = f.buckets_fine;
              windows_fine = f.windows_fine;
              trackers_fine = f.trackers_fine;
            });
        rules_sound = r.sound;
        buckets_sound = s.buckets_sound;
        windows_sound = s.windows_sound;
        trackers_sound = s.trackers_sound;
        threshold_low = s.threshold_low;
        threshold_high = s.threshold_high;
        window_low = s.window_low;
        window_high = s.window_high;
        next_id = s.next_id;
      }

  -- `add_rule`
  added : (p : List ℕ) (action : TopicAction) (policy : QosPolicy) (rate : ℕ)
      → (rule_plan m.rules m.rule_count p action policy rate).number ≡ 0
      → Sound (with_rule m (rule_plan m.rules m.rule_count p action policy rate))
  added p action policy rate =
      plan_cases m.rules m.rule_count p action policy rate (λ d. d.number ≡ 0 → Sound (with_rule m d))
      (λ n o. absurd (n o))
      (λ e h o. with_rules_lem (rule_overwritten ruled (equal_rule p m.rules m.rule_count) action policy rate (omega (arith, h))))
      (λ e f room o. with_rules_lem (rule_added ruled p action policy rate e room (omega (arith, room, f))))
      (λ e h o. absurd (omega arith))

  pub sound_add : (p : List ℕ) (action : TopicAction) (policy : QosPolicy) (rate : ℕ) → Sound (add_rule m p action policy rate).monitor
  unfolding add_rule
  sound_add p action policy rate = called _ _ _ (added p action policy rate)

  -- `remove_rule`
  pub sound_remove : (at : ℕ) → Sound (remove_rule m at).monitor
  unfolding remove_rule
  sound_remove at =
      called _ _ _
      (by (ltb at m.rule_count)
      (λ e. rw e (λ o. with_rules_lem (rule_removed ruled at (ltb-true _ _ e))))
      (λ e. rw e (λ o. absurd (omega arith))))

  -- `swap_rules`
  pub sound_swap : (a b : ℕ) → Sound (swap_rules m a b).monitor
  unfolding swap_rules
  sound_swap a b =
      called _ _ _
      (by (ltb a m.rule_count && ltb b m.rule_count)
      (λ e. rw e (λ o.
      let h = both (ltb a m.rule_count) (ltb b m.rule_count) e in
      with_rules_lem (rules_exchanged ruled a b (ltb-true _ _ h.0) (ltb-true _ _ h.1))))
      (λ e. rw e (λ o. absurd (omega arith))))

  -- `clear_rules`
  pub sound_clear : Sound (clear_rules m).monitor
  unfolding clear_rules
  sound_clear = called _ _ _ (λ o. with_rules_lem no_rules)

  -- `set_connect_storm_params`
  settings_formed : (threshold window : ℕ) → well_formed (with_settings m threshold window) ≡ true
  unfolding well_formed
  settings_formed threshold window = s.formed

  pub sound_storm : (threshold window : ℕ) → Sound (set_storm m threshold window).monitor
  unfolding set_storm
  sound_storm threshold window =
      called _ _ _
      (λ o. record {
        formed = settings_formed _ _;
        rules_sound = s.rules_sound;
        buckets_sound = s.buckets_sound;
        windows_sound = s.windows_sound;
        trackers_sound = s.trackers_sound;
        threshold_low = omega arith;
        threshold_high = omega arith;
        window_low = omega arith;
        window_high = omega arith;
        next_id = s.next_id;
      })

  -- other tables and counters
  module _ {buckets : List RateBucket} {clients : List ClientStormEntry} {trackers : List EwmaTracker} (id inspected alerts : ℕ) where
    with_tables_lem : SoundBuckets buckets → every bucket_fine buckets ≡ true → SoundWindows clients → every window_fine clients ≡ true
        → SoundTrackers trackers → every tracker_fine trackers ≡ true → (id ≡ 0 → ⊥)
        → Sound (with_counters (with_tables m buckets clients trackers) id inspected alerts)
    with_tables_lem b bf w wf k kf i =
        let f = formed_parts m s.formed in
        record {
          formed =
              parts_formed (with_counters (with_tables m buckets clients trackers) id inspected alerts)
              (record { count = f.count; rules_fine = f.rules_fine; buckets_fine = bf; windows_fine = wf; trackers_fine = kf });
          rules_sound = s.rules_sound;
          buckets_sound = b;
          windows_sound = w;
          trackers_sound = k;
          threshold_low = s.threshold_low;
          threshold_high = s.threshold_high;
          window_low = s.window_low;
          window_high = s.window_high;
          next_id = i;
        }

  -- `remove_rate_bucket`
  pub sound_bucket : (topic : List ℕ) → Sound (remove_bucket m topic).monitor
  unfolding remove_bucket
  sound_bucket topic =
      let f = formed_parts m s.formed in
      let at = removed_bucket (id_of topic) m.rate_buckets in
      called _ _ _
      (by (ltb at 32)
      (λ e. rw e (λ o.
      with_tables_lem m.next_alert_id m.total_inspected m.total_alerts
      (bucket_removed s.buckets_sound at (ltb-true _ _ e)) (every-set bucket_fine m.rate_buckets at empty_bucket f.buckets_fine refl)
      s.windows_sound f.windows_fine s.trackers_sound f.trackers_fine s.next_id))
      (λ e. rw e (λ o. absurd (omega arith))))

  -- `remove_ewma_tracker`
  pub sound_tracker : (topic : List ℕ) → Sound (remove_tracker m topic).monitor
  unfolding remove_tracker
  sound_tracker topic =
      let f = formed_parts m s.formed in
      let at = removed_tracker (id_of topic) m.ewma_trackers in
      called _ _ _
      (by (ltb at 16)
      (λ e. rw e (λ o.
      with_tables_lem m.next_alert_id m.total_inspected m.total_alerts
      s.buckets_sound f.buckets_fine s.windows_sound f.windows_fine
      (tracker_removed s.trackers_sound at (ltb-true _ _ e)) (every-set tracker_fine m.ewma_trackers at empty_tracker f.trackers_fine refl)
      s.next_id))
      (λ e. rw e (λ o. absurd (omega arith))))

  -- `reset_state`
  pub sound_reset : Sound (reset_state m).monitor
  unfolding reset_state every
  sound_reset = called _ _ _ (λ o. with_tables_lem 1 0 0 buckets_fresh refl windows_fresh refl trackers_fresh refl (λ e. omega arith))
