-- The two calls on covered rules say what is claimed of them: each number is that of the first earlier rule that covers, by `covers_exactly` of topics, since every rule that is held has a
-- pattern that `add_rule` takes. Assumes nothing.
use mathlib.Core.Bool.{Bool, true, false, not, ◌&&◌, or-true}
use mathlib.Core.List.{List, [], ◌∷◌}
use mathlib.Core.Path.{◌≡◌, refl, sym, ◌∙◌, ap}
use Prim.Native.Nat.{ℕ, zero, suc, ◌<◌, ◌≤◌, min}
use native.Mathlib.Omega.{arith}
use borrow.Author.Tests.{lt-ltb, leb-true, not-false}
use lib.Dec.{eqb, leb, ltb}
use lib.ListN.{length, get_or, take}
use lib.Seq.{get_or-take, length-take-le, take-append_seam, take_all}
use Rattle.laws.specs.Lists.{none}
use Rattle.laws.proofs.Cases.{by, clash}
use Rattle.laws.proofs.Every.{every_first}
use Rattle.laws.proofs.Tests.{both}
use Rattle.topics.specs.Covered.{is_name, shows, Exact}
use Rattle.topics.specs.Covering.{only_later, witness, covers, as_witness}
use Rattle.topics.specs.Matching.{port_matches, is_standard}
use Rattle.topics.specs.Names.{starts_with_dollar, bad_publish}
use Rattle.topics.specs.Patterns.{pattern_refusal}
use Rattle.topics.specs.declared.matching.Matching.TheVariants.{Port}
use Rattle.topics.proofs.covering.Counted.{old_count_meets}
use Rattle.topics.proofs.covering.Exact.{covers_exactly}
use Rattle.topics.proofs.patterns.PatternLaws.{some_none}
use Rattle.tables.specs.Covers.{rule_covers, rule_witness, first_number}
use Rattle.tables.specs.Rules.{pattern_of, no_rule, rule_fine, first_rule, shadowed}
use Rattle.tables.specs.declared.rules.TopicAction.{TopicAction}
use Rattle.tables.specs.declared.rules.TopicRule.{TopicRule}
use Rattle.tables.proofs.covers.ReportLaws.{number_first, number_zero, report_at, report_past}
use Rattle.tables.proofs.rules.RuleLaws.{fine_says}
use Rattle.tables.proofs.ScanLaws.{find-lt, find_before}
use Rattle.monitor.specs.Covered.{pattern_at, CoversAt, cover_of, Reported, Between, Covered}
use Rattle.monitor.specs.Covers.{covered_rules, later_name, LaterName}
use Rattle.monitor.specs.Gate.{is_block, stage_of, is_topical, ruling_of, gate_after, gate_of}
use Rattle.monitor.specs.Inspect.{inspect_refusal, inspect_with}
use Rattle.monitor.specs.Message.{type_number, used_topic}
use Rattle.monitor.specs.Plan.{plan_from, plan_of}
use Rattle.monitor.specs.Runs.{Call, shipped}
use Rattle.monitor.specs.State.{well_formed, matcher_of}
use Rattle.monitor.specs.declared.gate.Ruling.{Ruling}
use Rattle.monitor.specs.declared.gate.Stage.{Stage}
use Rattle.monitor.specs.declared.gate.Stage.TheVariants.{Early, NoRule, Rule}
use Rattle.monitor.specs.declared.message.MqttMessage.{MqttMessage}
use Rattle.monitor.specs.declared.state.MqttMonitor.{MqttMonitor}
use Rattle.monitor.proofs.state.FormedLaws.{formed_parts}

-- one of the earlier rules that takes a pattern shadows it
shadowed_by : (p : List ℕ) (l : List TopicRule) (j : ℕ) → j < length l → (get_or l j no_rule).active ≡ true → port_matches p (pattern_of (get_or l j no_rule)) ≡ true → shadowed p l ≡ true
unfolding shadowed
shadowed_by p [] j h a e = absurd (omega arith)
shadowed_by p (r ∷ l) zero h a e = rw (a, e)
shadowed_by p (r ∷ l) (suc j) h a e = rw (shadowed_by p l j (omega arith) a e) (or-true (r.active && port_matches p (pattern_of r)))

-- whether a name is handed back
found_none : (w : List ℕ) → length w ≡ 0 → none w ≡ true
found_none [] h = refl
found_none (x ∷ w) h = absurd (omega arith)

-- it is the first bytes of what is handed back
witness_name : (w : List ℕ) → length w ≤ 128 → take (length w) (as_witness w).name ≡ w
unfolding as_witness
witness_name w h = rw (take_all 128 w h) (take-append_seam w _)

witness_length : (w : List ℕ) → (as_witness w).len ≡ length w
unfolding as_witness
witness_length w = refl

-- what shows a difference is no longer than a name
shows_short : (matches : List ℕ → List ℕ → Bool) (p q n : List ℕ) → shows matches p q n ≡ true → length n ≤ 128
shows_short matches p q n e =
    let a = both (is_name n && matches n q) (not (matches n p)) e in
    let b = both (is_name n) (matches n q) a.0 in
    let c = both (leb 1 (length n) && leb (length n) 128) (not (bad_publish n)) b.0 in
    leb-true (length n) 128 (both (leb 1 (length n)) (leb (length n) 128) c.0).1

-- which rule a message came to, counted from 1; 0 for none
abbrev rule_of : Stage → ℕ
rule_of Early = 0
rule_of NoRule = 0
rule_of (Rule at) = suc at

-- a gate that came to a rule: the topic has a byte, and the rule is the first that takes it
module _ (matcher : List ℕ → List ℕ → Bool) (rules : List TopicRule) (n : ℕ) (default : TopicAction) (msg : MqttMessage) (topic : List ℕ) where
  after_stage : (r : Ruling) → (gate_after msg topic r).stage ≡ stage_of r
  unfolding gate_after
  after_stage r =
      by (eqb (type_number msg.packet_type) 8 && starts_with_dollar topic && not (r.found && not (is_block r.action)))
      (λ d. rw d)
      (λ d. by (is_block r.action) (λ b. rw (d, b)) (λ b. rw (d, b)))

  ruling_rule : (i : ℕ) → rule_of (stage_of (ruling_of matcher rules n default topic)) ≡ suc i → first_rule matcher topic rules n ≡ i
  unfolding ruling_of
  ruling_rule i e =
      by (ltb (first_rule matcher topic rules n) (min n 32))
      (λ h. let s : suc (first_rule matcher topic rules n) ≡ suc i = rw h at e in omega arith)
      (λ h. let z : 0 ≡ suc i = rw h at e in absurd (omega arith))

  gate_rule : (i : ℕ) → rule_of (gate_of matcher rules n default msg topic).stage ≡ suc i → (none topic ≡ false) × (first_rule matcher topic rules n ≡ i)
  unfolding gate_of
  gate_rule i e =
      by (not (is_topical (type_number msg.packet_type)))
      (λ t. let z : 0 ≡ suc i = rw t at e in absurd (omega arith))
      (λ t.
      by (none topic)
      (λ o. let z : 0 ≡ suc i = rw (t, o) at e in absurd (omega arith))
      (λ o.
      by (eqb (type_number msg.packet_type) 3 && bad_publish topic)
      (λ b. let z : 0 ≡ suc i = rw (t, o, b) at e in absurd (omega arith))
      (λ b. (o, ruling_rule i (sym (ap rule_of (after_stage (ruling_of matcher rules n default topic))) ∙ (rw (t, o, b) at e))))))

-- an inspection that came to a rule
shipped_rule : {P : Type 0} (m : MqttMonitor) (c : Call) (i : ℕ) → rule_of (shipped m c).stage ≡ suc i
    → ((topic : List ℕ) → none topic ≡ false → first_rule (matcher_of m) topic m.rules m.rule_count ≡ i → P) → P
unfolding inspect_with plan_of plan_from
shipped_rule m c i e then =
    by (eqb (inspect_refusal m c.msg c.topic c.payload) 0)
    (λ h.
    let topic = take (used_topic c.msg) c.topic in
    let g = gate_rule (matcher_of m) m.rules m.rule_count m.default_action c.msg topic i (rw h at e) in then topic g.0 g.1)
    (λ h. let z : 0 ≡ suc i = rw h at e in absurd (omega arith))

module _ (m : MqttMonitor) (formed : well_formed m ≡ true) (full : length m.rules ≡ 32) where
  count : m.rule_count ≤ 32
  count = (formed_parts m formed).count

  -- each rule that is held is live, and `add_rule` takes its pattern
  fine : (i : ℕ) → i < m.rule_count → ((get_or m.rules i no_rule).active ≡ true) × (pattern_refusal (pattern_at m i) ≡ 0)
  fine i h =
      let c = count in
      let g = fine_says (get_or m.rules i no_rule) (every_first rule_fine m.rules no_rule m.rule_count (omega arith) (formed_parts m formed).rules_fine i h) in
      (g.0, g.2)

  exact : (i j : ℕ) → i < m.rule_count → j < i → Exact (is_standard m.matching) (is_standard m.matching) (pattern_at m j) (pattern_at m i)
  exact i j h l = covers_exactly _ _ (pattern_at m j) (pattern_at m i) (fine j (omega arith)).1 (fine i h).1

  -- what the code asks of two rules
  abbrev hides : ℕ → ℕ → Bool
  hides j i = covers (is_standard m.matching) (is_standard m.matching) (pattern_at m j) (pattern_at m i)

  module _ (i : ℕ) (h : i < m.rule_count) where
    abbrev test : TopicRule → Bool
    test = rule_covers m.matching (get_or m.rules i no_rule)

    rules_before : length (take i m.rules) ≡ i
    rules_before = let c = count in length-take-le i m.rules (omega arith)

    rule_before : (j : ℕ) → j < i → get_or (take i m.rules) j no_rule ≡ get_or m.rules j no_rule
    rule_before j l = get_or-take i m.rules j no_rule l

    number : cover_of m i ≡ first_number test (take i m.rules)
    unfolding covered_rules
    number = rw formed (report_at m.matching m.rules m.rule_count full count i h)

    -- what the test says of an earlier rule
    yes : (j : ℕ) → j < i → test (get_or (take i m.rules) j no_rule) ≡ true → hides j i ≡ true
    unfolding rule_covers
    yes j l e = rw (rule_before j l) at e

    no : (j : ℕ) → j < i → test (get_or (take i m.rules) j no_rule) ≡ false → CoversAt m j i → ⊥
    unfolding rule_covers
    no j l e g = clash ((exact i j h l).covering g) (rw (rule_before j l) at e)

    first_cover : (k : ℕ) → cover_of m i ≡ suc k → (k < i) × (hides k i ≡ true) × ((j : ℕ) → j < k → CoversAt m j i → ⊥)
    first_cover k e =
        let b = rules_before in
        let f = number_first test (take i m.rules) no_rule k (sym number ∙ e) in
        let l : k < i = omega (arith, f.0) in
        (l, yes k l f.1, λ j g. no j (omega arith) (f.2 j g))

    both_take : (k : ℕ) → k < i → hides k i ≡ true
        → (topic : List ℕ) → none topic ≡ false → matcher_of m topic (pattern_at m i) ≡ true → matcher_of m topic (pattern_at m k) ≡ true
    unfolding only_later
    both_take k l e t s w = not-false _ (rw (s, w) at ((exact i k h l).every_topic e t))

    speaks_not : (k : ℕ) → k < i → hides k i ≡ true
        → (topic : List ℕ) → none topic ≡ false → first_rule (matcher_of m) topic m.rules m.rule_count ≡ i → ⊥
    unfolding first_rule
    speaks_not k l e t s f =
        let c = count in
        let n = length-take-le m.rule_count m.rules (omega arith) in
        let p : TopicRule → Bool = λ r. r.active && matcher_of m t (pattern_of r) in
        let there = find-lt p (take m.rule_count m.rules) no_rule (omega arith) in
        let own : p (get_or m.rules i no_rule) ≡ true = rw (f, get_or-take m.rule_count m.rules i no_rule h) at there in
        let w = (both (get_or m.rules i no_rule).active (matcher_of m t (pattern_at m i)) own).1 in
        let before = find_before p (take m.rule_count m.rules) no_rule k (omega arith) in
        let not_k : p (get_or m.rules k no_rule) ≡ false = rw (get_or-take m.rule_count m.rules k no_rule (omega arith)) at before in
        clash (rw (fine k (omega arith)).0 (both_take k l e t s w)) not_k

    old_counts : (k : ℕ) → k < i → hides k i ≡ true → m.matching ≡ Port
        → shadowed (pattern_at m i) (take i m.rules) ≡ true
    old_counts k l e port =
        let b = rules_before in
        shadowed_by (pattern_at m i) (take i m.rules) k (omega arith) (rw (rule_before k l) (fine k (omega arith)).0)
        (rw (rule_before k l) ((old_count_meets (pattern_at m k) (pattern_at m i) (fine k (omega arith)).1 (fine i h).1).by_port (rw port at e)))

    reported : Reported m i
    reported =
        record {
          first = λ k e. let f = first_cover k e in (f.0, (exact i k h f.0).covered f.1, f.2);
          free = λ e j l. let b = rules_before in no j l (number_zero test (take i m.rules) no_rule (sym number ∙ e) j (omega arith));
          silent = λ k e c g. let f = first_cover k e in shipped_rule m c i (ap rule_of g) (speaks_not k f.0 f.1);
          counted = λ k e. let f = first_cover k e in old_counts k f.0 f.1;
        }

    -- what is handed back of it and an earlier rule
    module _ (j : ℕ) (l : j < i) where
      abbrev name : List ℕ
      name = witness (is_standard m.matching) (is_standard m.matching) (pattern_at m j) (pattern_at m i)

      given : later_name m i j ≡ record { number = 0; witness = as_witness name }
      unfolding later_name rule_witness
      given = rw (formed, lt-ltb i m.rule_count h, lt-ltb j i l)

      long : (later_name m i j).witness.len ≡ length name
      long = ap (λ (r : LaterName). r.witness.len) given ∙ witness_length name

      name-shows : 1 ≤ (later_name m i j).witness.len
          → shows (matcher_of m) (pattern_at m j) (pattern_at m i) (take (later_name m i j).witness.len (later_name m i j).witness.name) ≡ true
      unfolding covers
      name-shows g =
          let n = long in
          let s = (exact i j h l).shown (some_none name (omega arith)) in
          rw (long, given, witness_name name (shows_short (matcher_of m) (pattern_at m j) (pattern_at m i) name s)) s

      between : Between m i j
      unfolding covers
      between =
          record {
            answered = ap (λ (r : LaterName). r.number) given;
            name = name-shows;
            no_name = λ e. (exact i j h l).covered (found_none name (sym long ∙ e));
          }

-- of every state that passes the test behind number 10
pub covered : Covered
unfolding covered_rules
covered m formed full =
    record {
      answered = rw formed;
      reported = λ i h. reported m formed full i h;
      past = λ i h. rw formed (report_past m.matching m.rules m.rule_count full (count m formed full) i h);
      between = λ i j h l. between m formed full i h j l;
    }
