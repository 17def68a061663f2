-- The guider's runs, by computation; and that a stretch which leaves no room is not among those of the one at 1.2 s. Assumes nothing.
use mathlib.Core.Bool.{true, false}
use mathlib.Core.List.{[], ◌∷◌, ◌++◌}
use mathlib.Core.Path.{◌≡◌, refl}
use Prim.Native.Nat.{◌≤◌}
use native.Mathlib.Omega.{arith}
use lib.ListN.{length}
use Rattle.laws.specs.Lists.{every}
use Rattle.slices.specs.Bytes.{bytes, same, has, count_of}
use Rattle.topics.specs.Hashes.{fnv1a, djb2, suffix_hash}
use Rattle.topics.specs.Levels.{first_level, rest_levels}
use Rattle.topics.specs.Matching.{from_slash, takes_none, takes_end, match_bytes}
use Rattle.topics.specs.Patterns.{well_placed, pattern_refusal}
use Rattle.topics.specs.Utf8.{begun, taken, is_utf8}
use Rattle.tables.specs.Buckets.{refilled, spend, is_expired, holds_bucket, newcomer, decide}
use Rattle.tables.specs.Identity.{prefix_of, id_of, is_of}
use Rattle.tables.specs.Rules.{qos_ok, rule_fine, equal_rule, first_rule, shadowed, shadowed_after, rule_plan}
use Rattle.tables.specs.Scan.{find, least_of}
use Rattle.monitor.specs.Alerts.{severity_of, hash_of, kinds_of, raise, raise_all}
use Rattle.monitor.specs.Calls.{fresh, add_rule}
use Rattle.monitor.specs.Gate.{ruling_of, gate_after, gate_of}
use Rattle.monitor.specs.Inspect.{applied, inspect_refusal, inspect_with}
use Rattle.monitor.specs.Plan.{seen_of, spent_of, fed_of, denial_of, plan_from, plan_of}
use Rattle.monitor.specs.Runs.{after_by}
use Rattle.monitor.specs.State.{well_formed, matcher_of}
use Rattle.theorems.specs.Guider.{lossy_spend, lossy_decide, lossy_plan, lossy, guides, every400ms, guider, verdicts, Guider}
use Rattle.theorems.specs.LowerExact.{ExactBy}
use Rattle.theorems.specs.Run.{InOrder, single, later, OneRate, done, next, first_rate, rate_of, reaches, is_among, arrived}
use Rattle.theorems.specs.Shipped.{passes, passed_by}
use Rattle.theorems.specs.Tight.{hub, publish}
use Rattle.theorems.proofs.Follows.{leaves_none, noticed}
use Rattle.theorems.proofs.Holders.{clash}
use Rattle.theorems.proofs.Tight.{hub_prepared}

-- the guider's messages up to 0.8 s, and the one at 1.2 s
in_order : InOrder (guider 2 ++ guides 1200000 ∷ [])
unfolding guider every400ms publish
in_order =
    let a : 0 ≤ 0 = omega arith in
    let b : 0 ≤ 400000 = omega arith in
    let c : 400000 ≤ 800000 = omega arith in
    let d : 800000 ≤ 1200000 = omega arith in
    later a (later b (later c (later d (single (guides 1200000)))))

-- what the step before makes of them
record Lost : Type 0 where
  few : length (arrived (matcher_of (hub 2)) (hub 2) [] (guider 2 ++ guides 1200000 ∷ [])) ≤ 32
  one_rate : OneRate (matcher_of (hub 2)) (hub 2) (id_of (bytes "m/g")) 2 (guider 2 ++ guides 1200000 ∷ [])
  reached : reaches (matcher_of (hub 2)) (hub 2) (id_of (bytes "m/g")) (guides 1200000) ≡ true
  denied : passes lossy (after_by lossy (hub 2) (guider 2)) (guides 1200000) ≡ false
  room :
      leaves_none (reaches (matcher_of (hub 2)) (hub 2) (id_of (bytes "m/g")))
      (λ earlier. passed_by lossy (hub 2) (after_by lossy (hub 2) earlier) (id_of (bytes "m/g"))) 2 (guides 1200000) [] (guider 2)
      ≡ false

lost : Lost
unfolding match_bytes from_slash takes_none takes_end first_level rest_levels same has well_placed count_of pattern_refusal is_utf8 taken begun fnv1a djb2 suffix_hash prefix_of id_of
    is_of find least_of refilled spend is_expired holds_bucket newcomer decide qos_ok rule_fine equal_rule first_rule shadowed shadowed_after severity_of hash_of
    kinds_of raise raise_all fresh rule_plan add_rule ruling_of gate_after gate_of applied inspect_refusal inspect_with seen_of spent_of fed_of denial_of plan_from
    plan_of every well_formed after_by first_rate rate_of reaches is_among arrived passed_by hub publish leaves_none lossy_spend lossy_decide lossy_plan lossy
    every400ms guider
lost =
    record {
      few = omega arith;
      one_rate = next (λ _. refl) (next (λ _. refl) (next (λ _. refl) (next (λ _. refl) (next (λ _. refl) done))));
      reached = refl;
      denied = refl;
      room = refl;
    }

lossy_inexact : ¬ ExactBy lossy
lossy_inexact exact =
    clash
    (noticed (reaches (matcher_of (hub 2)) (hub 2) (id_of (bytes "m/g"))) (λ earlier. passed_by lossy (hub 2) (after_by lossy (hub 2) earlier) (id_of (bytes "m/g"))) 2 (guides 1200000)
    (exact (hub 2) (hub_prepared 2) (id_of (bytes "m/g")) 2 (guider 2) (guides 1200000) in_order lost.few lost.one_rate lost.reached lost.denied))
    lost.room

pub guider_runs : Guider
unfolding match_bytes from_slash takes_none takes_end first_level rest_levels same has well_placed count_of pattern_refusal is_utf8 taken begun fnv1a djb2 suffix_hash prefix_of id_of
    is_of find least_of refilled spend is_expired holds_bucket newcomer decide qos_ok rule_fine equal_rule first_rule shadowed shadowed_after severity_of hash_of
    kinds_of raise raise_all fresh rule_plan add_rule ruling_of gate_after gate_of applied inspect_refusal inspect_with seen_of spent_of fed_of denial_of plan_from
    plan_of every well_formed hub publish lossy_spend lossy_decide lossy_plan lossy every400ms guider verdicts
guider_runs = record { four_of_five = refl; one_of_two = refl; lossy_inexact = lossy_inexact }
