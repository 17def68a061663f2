-- The six runs, by computation. Assumes nothing.
use mathlib.Core.Path.{refl}
use Rattle.laws.specs.Lists.{every}
use Rattle.slices.specs.Bytes.{same, has, count_of}
use Rattle.topics.specs.Hashes.{fnv1a, djb2, suffix_hash}
use Rattle.topics.specs.Levels.{first_level, rest_levels}
use Rattle.topics.specs.Matching.{from_slash, takes_none, takes_end, match_bytes}
use Rattle.topics.specs.Patterns.{well_placed, pattern_refusal}
use Rattle.topics.specs.Utf8.{begun, taken, is_utf8}
use Rattle.tables.specs.Buckets.{refilled, spend, is_expired, holds_bucket, newcomer, decide}
use Rattle.tables.specs.Identity.{prefix_of, id_of, is_of}
use Rattle.tables.specs.Rules.{qos_ok, rule_fine, equal_rule, first_rule, shadowed, shadowed_after, rule_plan}
use Rattle.tables.specs.Scan.{find, least_of}
use Rattle.monitor.specs.Alerts.{severity_of, hash_of, kinds_of, raise, raise_all}
use Rattle.monitor.specs.Calls.{fresh, add_rule}
use Rattle.monitor.specs.Gate.{ruling_of, gate_after, gate_of}
use Rattle.monitor.specs.Inspect.{applied, inspect_refusal, inspect_with}
use Rattle.monitor.specs.Plan.{seen_of, spent_of, fed_of, denial_of, plan_from, plan_of}
use Rattle.monitor.specs.State.{well_formed}
use Rattle.monitor.specs.Runs.{after_by}
use Rattle.theorems.specs.Run.{first_rate, rate_of, reaches, allowed_of}
use Rattle.theorems.specs.Slips.{Slips}
use Rattle.theorems.specs.Tight.{hub, publish, crowd}

pub slips : Slips
unfolding match_bytes from_slash takes_none takes_end first_level rest_levels same has well_placed count_of pattern_refusal is_utf8 taken begun fnv1a djb2 suffix_hash prefix_of id_of
    is_of find least_of refilled spend is_expired holds_bucket newcomer decide qos_ok rule_fine equal_rule first_rule shadowed shadowed_after severity_of hash_of
    kinds_of raise raise_all fresh rule_plan add_rule ruling_of gate_after gate_of applied inspect_refusal inspect_with seen_of spent_of fed_of denial_of plan_from
    plan_of every well_formed after_by first_rate rate_of reaches allowed_of hub publish crowd
slips = record { replaced = refl; expired = refl; capped = refl; dropped = refl; moved = refl; bare = refl }
