-- Every state that calls hand out is sound, so number 10 is never met in one, and every rule that one holds has a pattern that a client can send. Assumes nothing.
use mathlib.Core.Bool.{true}
use mathlib.Core.Path.{◌≡◌}
use native.Mathlib.Omega.{arith}
use Rattle.laws.proofs.Every.{every_first}
use Rattle.topics.proofs.patterns.PatternLaws.{accepted_sendable}
use Rattle.tables.specs.Rules.{rule_fine, no_rule}
use Rattle.tables.proofs.rules.RuleLaws.{fine_says}
use Rattle.monitor.specs.Reached.{Reached, SoundAlways, SendableAlways}
use Rattle.monitor.specs.Reached.{constructed, inspected, rule_added, rule_removed, rules_swapped, rules_cleared, storm_set, bucket_removed, tracker_removed, reset}
use Rattle.monitor.specs.Sound.{Sound}
use Rattle.monitor.specs.State.{well_formed, matcher_of}
use Rattle.monitor.specs.declared.state.MqttMonitor.{MqttMonitor}
use Rattle.monitor.proofs.SoundCalls.{sound_fresh, sound_add, sound_remove, sound_swap, sound_clear, sound_storm, sound_bucket, sound_tracker, sound_reset}
use Rattle.monitor.proofs.SoundInspect.{sound_inspect}
use Rattle.monitor.proofs.state.FormedLaws.{formed_parts}

pub reached_sound : {m : MqttMonitor} → Reached m → Sound m
reached_sound (constructed matching default) = sound_fresh matching default
reached_sound (inspected {m} msg topic payload r) = sound_inspect (matcher_of m) (reached_sound r) msg topic payload
reached_sound (rule_added pattern action policy rate r) = sound_add (reached_sound r) pattern action policy rate
reached_sound (rule_removed at r) = sound_remove (reached_sound r) at
reached_sound (rules_swapped a b r) = sound_swap (reached_sound r) a b
reached_sound (rules_cleared r) = sound_clear (reached_sound r)
reached_sound (storm_set threshold window r) = sound_storm (reached_sound r) threshold window
reached_sound (bucket_removed topic r) = sound_bucket (reached_sound r) topic
reached_sound (tracker_removed topic r) = sound_tracker (reached_sound r) topic
reached_sound (reset r) = sound_reset (reached_sound r)

-- the test behind number 10
pub reached_formed : {m : MqttMonitor} → Reached m → well_formed m ≡ true
reached_formed r = (reached_sound r).formed

pub sound_always : SoundAlways
sound_always m r = reached_sound r

-- the rules that count are fine, so `add_rule` takes their patterns
pub sendable_always : SendableAlways
sendable_always m r i h =
    let s = reached_sound r in
    let f = formed_parts m s.formed in
    let size = s.rules_sound.size in
    accepted_sendable _ (fine_says _ (every_first rule_fine m.rules no_rule m.rule_count (omega (arith, f.count, size)) f.rules_fine i h)).2
