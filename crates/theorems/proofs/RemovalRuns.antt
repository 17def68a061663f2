-- The runs with removals, by computation. Assumes nothing.
use mathlib.Core.Path.{refl}
use Prim.Native.Nat.{◌≤◌}
use native.Mathlib.Omega.{arith}
use Rattle.laws.specs.Lists.{every}
use Rattle.slices.specs.Bytes.{same, has, count_of}
use Rattle.topics.specs.Hashes.{fnv1a, djb2, suffix_hash}
use Rattle.topics.specs.Levels.{first_level, rest_levels}
use Rattle.topics.specs.Matching.{from_slash, takes_none, takes_end, match_bytes}
use Rattle.topics.specs.Patterns.{well_placed, pattern_refusal}
use Rattle.topics.specs.Utf8.{begun, taken, is_utf8}
use Rattle.tables.specs.Buckets.{refilled, spend, is_expired, holds_bucket, newcomer, decide, removed_bucket}
use Rattle.tables.specs.Identity.{prefix_of, id_of, is_of, is_removed}
use Rattle.tables.specs.Rules.{qos_ok, rule_fine, equal_rule, first_rule, shadowed, shadowed_after, rule_plan}
use Rattle.tables.specs.Scan.{find, least_of}
use Rattle.monitor.specs.Acts.{after_acts, messages, others_in}
use Rattle.monitor.specs.Alerts.{severity_of, hash_of, kinds_of, raise, raise_all}
use Rattle.monitor.specs.Calls.{fresh, add_rule, remove_bucket}
use Rattle.monitor.specs.Gate.{ruling_of, gate_after, gate_of}
use Rattle.monitor.specs.Inspect.{applied, inspect_refusal, inspect_with}
use Rattle.monitor.specs.Plan.{seen_of, spent_of, fed_of, denial_of, plan_from, plan_of}
use Rattle.monitor.specs.State.{well_formed}
use Rattle.theorems.specs.RemovalRuns.{once, twice, RemovalRuns}
use Rattle.theorems.specs.Removals.{passed_in}
use Rattle.theorems.specs.Run.{single, later, done, next, first_rate, rate_of, reaches}
use Rattle.theorems.specs.Slips.{own}
use Rattle.theorems.specs.Tight.{hub, publish, crowd}
use Rattle.theorems.proofs.Tight.{hub_prepared}

pub removal_runs : RemovalRuns
unfolding match_bytes from_slash takes_none takes_end first_level rest_levels same has well_placed count_of pattern_refusal is_utf8 taken begun fnv1a djb2 suffix_hash prefix_of id_of
    is_of is_removed find least_of refilled spend is_expired holds_bucket newcomer decide removed_bucket qos_ok rule_fine equal_rule first_rule shadowed shadowed_after severity_of hash_of
    kinds_of raise raise_all fresh rule_plan add_rule remove_bucket ruling_of gate_after gate_of applied inspect_refusal inspect_with seen_of spent_of fed_of denial_of plan_from
    plan_of every well_formed after_acts messages others_in passed_in first_rate rate_of reaches hub publish crowd once twice
removal_runs =
    let at : 0 ≤ 0 = omega arith in
    let half : 0 ≤ 500000 = omega arith in
    let whole : 500000 ≤ 1000000 = omega arith in
    record {
      met_once =
          record {
            prepared = hub_prepared 2;
            in_order = later at (later at (later at (later half (later whole (single (own 1000000))))));
            one_rate = next (λ _. refl) (next (λ _. refl) (next (λ _. refl) (next (λ _. refl) (next (λ _. refl) (next (λ _. refl) done)))));
            reached_first = refl;
            reached_last = refl;
            count = refl;
            exactly = refl;
          };
      met_twice =
          record {
            prepared = hub_prepared 2;
            in_order = later at (later at (later at (later at (later at (later half (later whole (single (own 1000000))))))));
            one_rate =
                next (λ _. refl)
                (next (λ _. refl) (next (λ _. refl) (next (λ _. refl) (next (λ _. refl) (next (λ _. refl) (next (λ _. refl) (next (λ _. refl) done)))))));
            reached_first = refl;
            reached_last = refl;
            count = refl;
            exactly = refl;
          };
      by_another = (refl, refl, refl);
      freed = refl;
      spared = (refl, refl, refl);
      no_more = refl;
      unheld = (refl, refl);
      gone_already = (refl, refl);
    }
