-- Each refutation is one run. Three messages of one topic in one instant at rate 2 refute a monitor that allows everything; one message of a new topic, one that denies
-- everything; the counters of inspected messages, one whose state stays. The rest are replies that differ, by computation. Assumes nothing.
use mathlib.Core.Path.{◌≡◌, refl, sym, ◌∙◌, ap}
use mathlib.Core.Bool.{Bool, true, false, false≢true}
use mathlib.Core.List.{List, [], ◌∷◌, ◌++◌}
use Prim.Native.Nat.{ℕ, ◌+◌, ◌-◌, ◌*◌, ◌≤◌, ◌<◌}
use native.Mathlib.Omega.{arith}
use lib.ListN.{length}
use Rattle.laws.specs.Lists.{every}
use Rattle.slices.specs.Bytes.{bytes, same, has, count_of, begins, find_byte, to_byte}
use Rattle.topics.specs.Hashes.{fnv1a, djb2, suffix_hash}
use Rattle.topics.specs.Levels.{first_level, rest_levels}
use Rattle.topics.specs.Matching.{match_levels, from_slash, takes_none, takes_end, match_bytes, standard_rule, port_matches, standard_matches}
use Rattle.topics.specs.Patterns.{well_placed, pattern_refusal}
use Rattle.topics.specs.Utf8.{begun, taken, is_utf8}
use Rattle.topics.specs.declared.matching.Matching.{Matching}
use Rattle.topics.specs.declared.matching.StandardMatch.{StandardMatch}
use Rattle.topics.specs.declared.matching.StandardMatch.TheVariants.{Yes, No, OutsideDomain}
use Rattle.lines.specs.Decimal.{decimal, decimal_in}
use Rattle.lines.specs.Field.{keyed, line_at, answered, word_field, number_field}
use Rattle.lines.specs.Line.{number_line}
use Rattle.lines.specs.ReadWord.{word_of, word_index}
use Rattle.lines.specs.Span.{span_of}
use Rattle.lines.specs.Word.{first_word, rest_words}
use Rattle.tables.specs.Buckets.{refilled, spend, is_expired, holds_bucket, newcomer, decide}
use Rattle.tables.specs.Identity.{prefix_of, id_of, is_of}
use Rattle.tables.specs.Rules.{qos_ok, rule_fine, equal_rule, first_rule, shadowed, shadowed_after, rule_plan}
use Rattle.tables.specs.Scan.{find, least_of}
use Rattle.tables.specs.declared.rules.QosPolicy.TheVariants.{Any}
use Rattle.tables.specs.declared.rules.TopicAction.TheVariants.{Allow}
use Rattle.monitor.specs.Alerts.{severity_of, hash_of, kinds_of, raise, raise_all}
use Rattle.monitor.specs.Calls.{fresh, add_rule, validate_rules}
use Rattle.monitor.specs.Gate.{ruling_of, gate_after, gate_of}
use Rattle.monitor.specs.Inspect.{applied, inspect_refusal, inspect_with}
use Rattle.monitor.specs.Plan.{seen_of, spent_of, fed_of, denial_of, plan_from, plan_of}
use Rattle.monitor.specs.Runs.{Call, Monitor, shipped, after_by}
use Rattle.monitor.specs.State.{well_formed, matcher_of}
use Rattle.monitor.specs.Ended.{Inspected, Outcome, Done, Refused}
use Rattle.monitor.specs.declared.state.MqttMonitor.{MqttMonitor}
use Rattle.trace.specs.Groups.{opening_of, opening1, opening2}
use Rattle.trace.specs.Record.{closing_text}
use Rattle.trace.specs.Trace.{loaded_from, loaded, messages_of, text_from, trace_text, trace_end}
use Rattle.trace.specs.declared.run.TraceEnd.{TraceEnd}
use Rattle.theorems.specs.Run.{Matcher, InOrder, single, later, OneRate, done, next, first_rate, rate_of, reaches, is_among, arrived}
use Rattle.theorems.specs.Shipped.{passes, passed_by, UpperBy, LowerBy, LaterBy}
use Rattle.theorems.specs.ShutOut.{Meets, ShutOut}
use Rattle.theorems.specs.Tight.{hub, publish}
use Rattle.theorems.proofs.Tight.{hub_prepared}

-- a message of the one topic, at 0
abbrev message : Call
message = publish (bytes "m/a") 0

-- the next one of it, half a second later
abbrev soon : Call
soon = publish (bytes "m/a") 500000

-- what a monitor with one rule, at rate 2, does with it
record Facts : Type 0 where
  reached : reaches (matcher_of (hub 2)) (hub 2) (id_of (bytes "m/a")) message ≡ true
  one_rate : OneRate (matcher_of (hub 2)) (hub 2) (id_of (bytes "m/a")) 2 (message ∷ message ∷ message ∷ [])
  few : length (arrived (matcher_of (hub 2)) (hub 2) [] (message ∷ [])) ≤ 32
  reached_soon : reaches (matcher_of (hub 2)) (hub 2) (id_of (bytes "m/a")) soon ≡ true
  one_rate_soon : OneRate (matcher_of (hub 2)) (hub 2) (id_of (bytes "m/a")) 2 (message ∷ soon ∷ [])
  few_soon : length (arrived (matcher_of (hub 2)) (hub 2) [] (message ∷ soon ∷ [])) ≤ 32
  none : (hub 2).total_inspected ≡ 0
  first : (shipped (hub 2) message).monitor.total_inspected ≡ 1
  second : (shipped (shipped (hub 2) message).monitor message).monitor.total_inspected ≡ 2
  quiet : (shipped (hub 2) message).result.alert_count ≡ 0

facts : Facts
unfolding match_bytes from_slash takes_none takes_end first_level rest_levels same has well_placed count_of pattern_refusal is_utf8 taken begun fnv1a djb2 suffix_hash prefix_of id_of
    is_of find least_of refilled spend is_expired holds_bucket newcomer decide qos_ok rule_fine equal_rule first_rule shadowed shadowed_after severity_of hash_of
    kinds_of raise raise_all fresh rule_plan add_rule ruling_of gate_after gate_of applied inspect_refusal inspect_with seen_of spent_of fed_of denial_of plan_from
    plan_of every well_formed first_rate rate_of reaches hub publish is_among arrived
facts =
    record {
      reached = refl;
      one_rate = next (λ _. refl) (next (λ _. refl) (next (λ _. refl) done));
      few = omega arith;
      reached_soon = refl;
      one_rate_soon = next (λ _. refl) (next (λ _. refl) done);
      few_soon = omega arith;
      none = refl;
      first = refl;
      second = refl;
      quiet = refl;
    }

denies_everything : (f : Monitor) → LowerBy f → ¬ ((m : MqttMonitor) (c : Call) → passes f m c ≡ false)
denies_everything f low all =
    false≢true (sym (all _ message) ∙ low (hub 2) (hub_prepared 2) (id_of (bytes "m/a")) [] message (single message) facts.few done facts.reached)

soon_in_order : InOrder (message ∷ soon ∷ [])
unfolding publish
soon_in_order = let h : 0 ≤ 500000 = omega arith in later h (single soon)

denies_later : (f : Monitor) → LaterBy f → ¬ ((m : MqttMonitor) (c d : Call) → passes f (f m c).monitor d ≡ false)
unfolding after_by publish
denies_later f low all =
    let h : 1000000 ≤ 2 * (500000 - 0) = omega arith in
    false≢true
    (sym (all (hub 2) message soon)
    ∙ low (hub 2) (hub_prepared 2) (id_of (bytes "m/a")) 2 [] [] message soon soon_in_order facts.few_soon facts.one_rate_soon facts.reached done
    facts.reached_soon h)

in_order : InOrder (message ∷ message ∷ message ∷ [])
unfolding publish
in_order = let h : 0 ≤ 0 = omega arith in later h (later h (single message))

module _ (f : Monitor) (all : (m : MqttMonitor) (c : Call) → passes f m c ≡ true) where
  -- one message more is one passed more
  counts : (m : MqttMonitor) (cs : List Call)
      → passed_by f (hub 2) m (id_of (bytes "m/a")) (message ∷ cs) ≡ 1 + passed_by f (hub 2) (f m message).monitor (id_of (bytes "m/a")) cs
  unfolding passed_by
  counts m cs = rw (facts.reached, all m message)

  too_many : (m : MqttMonitor) → 3 ≤ passed_by f (hub 2) m (id_of (bytes "m/a")) (message ∷ message ∷ message ∷ [])
  too_many m = rw (counts m, counts (f m message).monitor, counts (f (f m message).monitor message).monitor) (omega arith)

allows_everything : (f : Monitor) → UpperBy f → ¬ ((m : MqttMonitor) (c : Call) → passes f m c ≡ true)
unfolding after_by publish
allows_everything f up all =
    let h = up (hub 2) (hub_prepared 2) (id_of (bytes "m/a")) 2 [] (message ∷ []) message message in_order facts.one_rate facts.reached facts.reached in
    omega (arith, h, too_many f all (hub 2))

moved : (m n : MqttMonitor) → m ≡ n → m.total_inspected ≡ n.total_inspected
moved m n e = ap (λ (s : MqttMonitor). s.total_inspected) e

never_moves : (f : Monitor) → Meets f → ¬ ((m : MqttMonitor) (c : Call) → (f m c).monitor ≡ m)
never_moves f meets h =
    let e : (shipped (hub 2) message).monitor ≡ hub 2 = sym (ap (λ (r : Inspected). r.monitor) (meets (hub 2) message)) ∙ h (hub 2) message in
    omega (arith, facts.none, facts.first, moved _ _ e)

first_only : (f : Monitor) → Meets f → ¬ ((m : MqttMonitor) (c d : Call) → (f (f m c).monitor d).monitor ≡ (f m c).monitor)
first_only f meets h =
    let s : MqttMonitor = (f (hub 2) message).monitor in
    let e : (shipped s message).monitor ≡ s = sym (ap (λ (r : Inspected). r.monitor) (meets s message)) ∙ h (hub 2) message message in
    let g : s ≡ (shipped (hub 2) message).monitor = ap (λ (r : Inspected). r.monitor) (meets (hub 2) message) in
    omega (arith, facts.first, facts.second, moved _ _ (rw g at e))

-- the standard matcher's yes
abbrev is_yes : StandardMatch → Bool
is_yes Yes = true
is_yes No = false
is_yes OutsideDomain = false

-- replies of the two matchers that differ
record Replies : Type 0 where
  yes : port_matches (bytes "a") (bytes "a") ≡ true
  no : port_matches (bytes "b") (bytes "a") ≡ false
  yes_standard : is_yes (standard_matches (bytes "a") (bytes "a")) ≡ true
  no_standard : is_yes (standard_matches (bytes "b") (bytes "a")) ≡ false

replies : Replies
unfolding match_bytes from_slash takes_none takes_end first_level rest_levels same has well_placed count_of pattern_refusal is_utf8 taken begun match_levels standard_rule standard_matches
replies = record { yes = refl; no = refl; yes_standard = refl; no_standard = refl }

one_reply : (g : Matcher) → ((t p : List ℕ) → g t p ≡ port_matches t p) → (b : Bool) → ¬ ((t p : List ℕ) → g t p ≡ b)
one_reply g meets b h =
    false≢true
    (sym replies.no ∙ sym (meets (bytes "b") (bytes "a")) ∙ h (bytes "b") (bytes "a") ∙ sym (h (bytes "a") (bytes "a")) ∙ meets (bytes "a") (bytes "a") ∙ replies.yes)

one_reply_standard : (g : List ℕ → List ℕ → StandardMatch) → ((t p : List ℕ) → g t p ≡ standard_matches t p) → (b : StandardMatch) → ¬ ((t p : List ℕ) → g t p ≡ b)
one_reply_standard g meets b h =
    let yes : standard_matches (bytes "a") (bytes "a") ≡ b = sym (meets (bytes "a") (bytes "a")) ∙ h (bytes "a") (bytes "a") in
    let no : standard_matches (bytes "b") (bytes "a") ≡ b = sym (meets (bytes "b") (bytes "a")) ∙ h (bytes "b") (bytes "a") in
    false≢true (sym replies.no_standard ∙ ap is_yes (no ∙ sym yes) ∙ replies.yes_standard)

invented_alert : (f : Monitor) → Meets f → ¬ ((m : MqttMonitor) (c : Call) → 0 < (f m c).result.alert_count)
invented_alert f meets h =
    let e : (f (hub 2) message).result.alert_count ≡ (shipped (hub 2) message).result.alert_count =
    ap (λ (r : Inspected). r.result.alert_count) (meets (hub 2) message) in
    omega (arith, h (hub 2) message, e, facts.quiet)

-- a monitor with one more rule, which the first shadows
abbrev crowded : MqttMonitor
crowded = (add_rule (hub 2) (bytes "m/a") Allow Any 2).monitor

-- the count that an outcome hands back
abbrev count : Outcome → ℕ
count (Done n) = n
count (Refused n) = 0

shadows : (validate_rules (hub 2) ≡ Done 0) × (validate_rules crowded ≡ Done 1)
unfolding match_bytes from_slash takes_none takes_end first_level rest_levels same has well_placed count_of pattern_refusal is_utf8 taken begun fnv1a djb2 suffix_hash prefix_of id_of
    is_of find least_of refilled spend is_expired holds_bucket newcomer decide qos_ok rule_fine equal_rule first_rule shadowed shadowed_after severity_of hash_of
    kinds_of raise raise_all fresh rule_plan add_rule ruling_of gate_after gate_of applied inspect_refusal inspect_with seen_of spent_of fed_of denial_of plan_from
    plan_of every well_formed first_rate rate_of reaches hub publish validate_rules
shadows = (refl, refl)

invented_shadow : (v : MqttMonitor → Outcome) → ((m : MqttMonitor) → v m ≡ validate_rules m) → (n : ℕ) → ¬ ((m : MqttMonitor) → v m ≡ Done n)
invented_shadow v meets n h =
    let none : 0 ≡ n = ap count (sym shadows.0 ∙ sym (meets (hub 2)) ∙ h (hub 2)) in
    let one : 1 ≡ n = ap count (sym shadows.1 ∙ sym (meets crowded) ∙ h crowded) in
    omega arith

-- an empty trace is refused at its first line, and one with that line alone at its second
lines_read : (matching : Matching) → ((trace_end matching 200 []).line ≡ 1) × ((trace_end matching 200 (bytes "default=allow" ++ 10 ∷ [])).line ≡ 2)
unfolding fresh span_of find_byte to_byte first_word rest_words begins same word_of word_index keyed line_at answered word_field number_field decimal decimal_in
    number_line opening_of opening1 opening2 closing_text loaded_from loaded messages_of text_from trace_text trace_end
lines_read matching = (refl, refl)

invented_line : (matching : Matching) (g : ℕ → List ℕ → TraceEnd) → ((room : ℕ) (text : List ℕ) → g room text ≡ trace_end matching room text) → (n : ℕ)
    → ¬ ((room : ℕ) (text : List ℕ) → (g room text).line ≡ n)
invented_line matching g meets n h =
    let at : (text : List ℕ) → (trace_end matching 200 text).line ≡ n = λ text. sym (ap (λ (e : TraceEnd). e.line) (meets 200 text)) ∙ h 200 text in
    let read = lines_read matching in
    omega (arith, read.0, read.1, at [], at (bytes "default=allow" ++ 10 ∷ []))

pub shut_out : ShutOut
shut_out =
    record {
      denies_everything = denies_everything;
      denies_later = denies_later;
      allows_everything = allows_everything;
      never_moves = never_moves;
      first_only = first_only;
      one_reply = one_reply;
      one_reply_standard = one_reply_standard;
      invented_alert = invented_alert;
      invented_shadow = invented_shadow;
      invented_line = invented_line;
    }
