-- The three runs, by computation. Assumes nothing.
use mathlib.Core.Bool.{false≢true}
use mathlib.Core.Path.{refl}
use Prim.Native.Nat.{ℕ, ◌≤◌}
use native.Mathlib.Omega.{arith}
use Rattle.laws.specs.Lists.{every}
use Rattle.slices.specs.Bytes.{bytes, same, has, count_of}
use Rattle.topics.specs.Hashes.{fnv1a, djb2, suffix_hash}
use Rattle.topics.specs.Levels.{first_level, rest_levels}
use Rattle.topics.specs.Matching.{from_slash, takes_none, takes_end, match_bytes}
use Rattle.topics.specs.Patterns.{well_placed, pattern_refusal}
use Rattle.topics.specs.Utf8.{begun, taken, is_utf8}
use Rattle.topics.specs.declared.matching.Matching.TheVariants.{Port}
use Rattle.tables.specs.Buckets.{refilled, spend, is_expired, holds_bucket, newcomer, decide}
use Rattle.tables.specs.Identity.{prefix_of, id_of, is_of}
use Rattle.tables.specs.Rules.{qos_ok, rule_fine, equal_rule, first_rule, shadowed, shadowed_after, rule_plan}
use Rattle.tables.specs.Scan.{find, least_of}
use Rattle.tables.specs.declared.rules.QosPolicy.TheVariants.{Any}
use Rattle.tables.specs.declared.rules.TopicAction.TheVariants.{Allow, Block}
use Rattle.monitor.specs.Alerts.{severity_of, hash_of, kinds_of, raise, raise_all}
use Rattle.monitor.specs.Calls.{fresh, add_rule}
use Rattle.monitor.specs.Gate.{ruling_of, gate_after, gate_of}
use Rattle.monitor.specs.Inspect.{applied, inspect_refusal, inspect_with}
use Rattle.monitor.specs.Plan.{seen_of, spent_of, fed_of, denial_of, plan_from, plan_of}
use Rattle.monitor.specs.State.{well_formed}
use Rattle.monitor.specs.Runs.{after_by}
use Rattle.monitor.specs.Prepared.{Prepared, made, rule}
use Rattle.theorems.specs.Run.{InOrder, single, later, done, next, first_rate, rate_of, reaches, allowed_of, is_among, arrived}
use Rattle.theorems.specs.Tight.{hub, publish, busy, Met, waits, MetLater, crowd, Night}

pub hub_prepared : (rate : ℕ) → Prepared (hub rate)
unfolding hub
hub_prepared rate = rule (made Port Block) (bytes "m/+") Allow Any rate

busy_in_order : InOrder busy
unfolding busy publish
busy_in_order =
    let a : 0 ≤ 0 = omega arith in
    let b : 0 ≤ 500000 = omega arith in
    let c : 500000 ≤ 1000000 = omega arith in
    later a (later b (later c (single (publish (bytes "m/a") 1000000))))

waits_in_order : InOrder (waits 1000000)
unfolding publish
waits_in_order =
    let a : 0 ≤ 0 = omega arith in
    let b : 0 ≤ 1000000 = omega arith in
    later a (later b (single (publish (bytes "m/a") 1000000)))

pub tight : Met × MetLater × Night
unfolding match_bytes from_slash takes_none takes_end first_level rest_levels same has well_placed count_of pattern_refusal is_utf8 taken begun fnv1a djb2 suffix_hash prefix_of id_of
    is_of find least_of refilled spend is_expired holds_bucket newcomer decide qos_ok rule_fine equal_rule first_rule shadowed shadowed_after severity_of hash_of
    kinds_of raise raise_all fresh rule_plan add_rule ruling_of gate_after gate_of applied inspect_refusal inspect_with seen_of spent_of fed_of denial_of plan_from
    plan_of every well_formed after_by first_rate rate_of reaches allowed_of is_among arrived hub publish busy crowd
tight = (
  record { prepared = hub_prepared 2; in_order = busy_in_order; one_rate = next (λ _. refl) (next (λ _. refl) (next (λ _. refl) (next (λ _. refl) done))); exactly = refl },
  record {
    prepared = hub_prepared 1;
    in_order = waits_in_order;
    few = omega arith;
    one_rate = next (λ _. refl) (next (λ e. absurd (false≢true e)) (next (λ _. refl) done));
    reached = refl;
    silent = next refl done;
    reached_later = refl;
    earned = omega arith;
    allowed = refl;
    sooner = refl;
  },
  record { identities = refl; denied = (refl, refl, refl); allowed = (refl, refl) },
)
