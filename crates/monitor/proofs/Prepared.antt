-- Fresh monitors: no bucket of theirs is live and no alert is counted, and they are sound, so number 10 is not met in one. Assumes nothing.
use mathlib.Core.Bool.{cond, ◌&&◌}
use mathlib.Core.Path.{◌≡◌, refl}
use lib.Dec.{eqb, ltb}
use lib.ListN.{replicate}
use Rattle.laws.proofs.Cases.{by}
use Rattle.tables.specs.Buckets.{empty_bucket, removed_bucket}
use Rattle.tables.specs.Identity.{id_of}
use Rattle.tables.specs.Scan.{find}
use Rattle.tables.specs.Trackers.{removed_tracker}
use Rattle.tables.specs.declared.identity.Id.{Id}
use Rattle.tables.specs.Rules.{rule_plan}
use Rattle.monitor.specs.Calls.{fresh, tested, add_rule, remove_rule, swap_rules, clear_rules, set_storm, remove_bucket, remove_tracker, reset_state}
use Rattle.monitor.specs.Prepared.{Prepared, made, anew, rule, removed, swapped, cleared, storm, bucket, tracker}
use Rattle.monitor.specs.Sound.{Sound}
use Rattle.monitor.specs.State.{well_formed}
use Rattle.monitor.specs.declared.state.MqttMonitor.{MqttMonitor}
use Rattle.monitor.proofs.Reached.{reached_sound, reached_formed}
use Rattle.monitor.proofs.SoundCalls.{sound_fresh, sound_add, sound_remove, sound_swap, sound_clear, sound_storm, sound_bucket, sound_tracker, sound_reset}

-- all buckets are free, and no alert is counted
abbrev Untouched : MqttMonitor → Type 0
Untouched m = (m.rate_buckets ≡ replicate 32 empty_bucket) × (m.total_alerts ≡ 0)

-- there is nothing to remove among free buckets
nothing_there : (x : Id) → removed_bucket x (replicate 32 empty_bucket) ≡ 32
unfolding removed_bucket find
nothing_there x = refl

untouched : {m : MqttMonitor} → Prepared m → Untouched m
unfolding fresh add_rule remove_rule swap_rules clear_rules set_storm remove_bucket remove_tracker reset_state
untouched (made matching default) = (refl, refl)
untouched (anew r) = rw (reached_formed r) (refl, refl)
untouched (rule {m} p pattern action policy rate) =
    by (eqb (tested m (rule_plan m.rules m.rule_count pattern action policy rate).number) 0) (λ e. rw e (untouched p)) (λ e. rw e (untouched p))
untouched (removed {m} p at) =
    by (eqb (tested m (cond (ltb at m.rule_count) 0 9)) 0) (λ e. rw e (untouched p)) (λ e. rw e (untouched p))
untouched (swapped {m} p a b) =
    by (eqb (tested m (cond (ltb a m.rule_count && ltb b m.rule_count) 0 9)) 0) (λ e. rw e (untouched p)) (λ e. rw e (untouched p))
untouched (cleared {m} p) = by (eqb (tested m 0) 0) (λ e. rw e (untouched p)) (λ e. rw e (untouched p))
untouched (storm {m} p threshold window) = by (eqb (tested m 0) 0) (λ e. rw e (untouched p)) (λ e. rw e (untouched p))
untouched (bucket {m} p topic) =
    by (well_formed m) (λ e. rw (e, (untouched p).0, nothing_there (id_of topic)) (refl, (untouched p).1)) (λ e. rw e (untouched p))
untouched (tracker {m} p topic) =
    by (eqb (tested m (cond (ltb (removed_tracker (id_of topic) m.ewma_trackers) 16) 0 7)) 0) (λ e. rw e (untouched p)) (λ e. rw e (untouched p))

-- no bucket is live
pub all_free : {m : MqttMonitor} → Prepared m → m.rate_buckets ≡ replicate 32 empty_bucket
all_free p = (untouched p).0

-- no alert is counted
pub no_alerts : {m : MqttMonitor} → Prepared m → m.total_alerts ≡ 0
no_alerts p = (untouched p).1

pub prepared_sound : {m : MqttMonitor} → Prepared m → Sound m
prepared_sound (made matching default) = sound_fresh matching default
prepared_sound (anew r) = sound_reset (reached_sound r)
prepared_sound (rule p pattern action policy rate) = sound_add (prepared_sound p) pattern action policy rate
prepared_sound (removed p at) = sound_remove (prepared_sound p) at
prepared_sound (swapped p a b) = sound_swap (prepared_sound p) a b
prepared_sound (cleared p) = sound_clear (prepared_sound p)
prepared_sound (storm p threshold window) = sound_storm (prepared_sound p) threshold window
prepared_sound (bucket p topic) = sound_bucket (prepared_sound p) topic
prepared_sound (tracker p topic) = sound_tracker (prepared_sound p) topic
