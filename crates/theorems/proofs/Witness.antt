-- The trace, by computation. Assumes nothing.
use mathlib.Core.Path.{refl}
use Prim.Native.Nat.{◌≤◌}
use native.Mathlib.Omega.{arith}
use Rattle.laws.specs.Lists.{every}
use Rattle.slices.specs.Bytes.{begins, to_byte, find_byte, same, has, count_of}
use Rattle.topics.specs.Hashes.{fnv1a, djb2, suffix_hash}
use Rattle.topics.specs.Levels.{first_level, rest_levels}
use Rattle.topics.specs.Matching.{from_slash, takes_none, takes_end, match_bytes}
use Rattle.topics.specs.Patterns.{well_placed, pattern_refusal}
use Rattle.topics.specs.Utf8.{begun, taken, is_utf8}
use Rattle.lines.specs.Decimal.{decimal, decimal_in}
use Rattle.lines.specs.Field.{keyed, line_at, answered, number_field, word_field, hex_field}
use Rattle.lines.specs.ReadDecimal.{is_digit, digits_after, no_spare_zero, decimal_of}
use Rattle.lines.specs.ReadHex.{is_hex, unhex, hex_refusal}
use Rattle.lines.specs.ReadWord.{word_index, word_of}
use Rattle.lines.specs.Span.{span_of}
use Rattle.lines.specs.Word.{first_word, rest_words}
use Rattle.tables.specs.Buckets.{refilled, spend, is_expired, holds_bucket, newcomer, decide}
use Rattle.tables.specs.Identity.{prefix_of, id_of, is_of}
use Rattle.tables.specs.Rules.{qos_ok, rule_fine, equal_rule, first_rule, shadowed, shadowed_after, rule_plan}
use Rattle.tables.specs.Scan.{find, least_of}
use Rattle.monitor.specs.Alerts.{severity_of, hash_of, kinds_of, raise, raise_all}
use Rattle.monitor.specs.Calls.{fresh, add_rule}
use Rattle.monitor.specs.Gate.{ruling_of, gate_after, gate_of}
use Rattle.monitor.specs.Inspect.{applied, inspect_refusal, inspect_with}
use Rattle.monitor.specs.Plan.{seen_of, spent_of, fed_of, denial_of, plan_from, plan_of}
use Rattle.monitor.specs.Runs.{replies_by}
use Rattle.monitor.specs.State.{well_formed}
use Rattle.rules_text.specs.RuleGroup.{rule_at, rule1, rule2, rule3, rule4}
use Rattle.trace.specs.Groups.{opening_of, opening1, opening2, message_at, message1, message2, message3, message4, message5, message6, message7}
use Rattle.trace.specs.Trace.{rule_into, rules_into, loaded_from, loaded, messages_from, messages_of}
use Rattle.theorems.specs.Printed.{passed_of, topic_rate}
use Rattle.theorems.specs.Run.{later, single, first_rate}
use Rattle.theorems.specs.Witness.{busy_text, Witness}

pub witness : Witness
unfolding decimal decimal_in keyed line_at answered number_field word_field hex_field is_digit digits_after no_spare_zero decimal_of is_hex unhex hex_refusal
    begins word_index word_of to_byte find_byte span_of first_word rest_words match_bytes from_slash takes_none takes_end first_level rest_levels same has well_placed
    count_of pattern_refusal is_utf8 taken begun fnv1a djb2 suffix_hash prefix_of id_of is_of find least_of refilled spend is_expired holds_bucket newcomer decide qos_ok rule_fine equal_rule
    first_rule shadowed shadowed_after severity_of hash_of kinds_of raise raise_all fresh rule_plan add_rule ruling_of gate_after gate_of applied inspect_refusal inspect_with
    seen_of spent_of fed_of denial_of plan_from plan_of replies_by every well_formed opening_of opening1 opening2 rule_at rule1 rule2 rule3 rule4 message_at message1 message2
    message3 message4 message5 message6 message7 rule_into rules_into loaded_from loaded messages_from messages_of passed_of topic_rate first_rate busy_text
witness =
    let a : 0 ≤ 0 = omega arith in
    let b : 0 ≤ 500000 = omega arith in
    let c : 500000 ≤ 1000000 = omega arith in
    record { in_order = later a (later b (later c (single _))); rate = refl; exactly = refl }
