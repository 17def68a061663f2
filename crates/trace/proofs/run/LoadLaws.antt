-- How rules are loaded one after the other: what is left of them to load (`Loading`) begins after the opening (`load_start`), goes on with a rule that was
-- added (`load_turn`), and stops at a rule that is refused (`load_stop`). The monitor is at each time sound, so number 10 does not come up and `add_rule` does
-- what its plan says (`rule_stop`, `rule_refused`, `rule_taken`). A loaded monitor is a fresh one that has the rules of the table, so the table says all
-- (`loaded-monitor`). The choice of the matcher changes nothing of it (`loaded_alike`). Assumes nothing.
use Prim.Native.Nat.{ℕ, zero, suc, ◌+◌, ◌-◌, ◌*◌, ◌≤◌, ◌<◌}
use mathlib.Core.Path.{◌≡◌, refl, sym, ap, ◌∙◌}
use mathlib.Core.Bool.{true}
use Rattle.std.specs.Prelude.{Result, Ok, Err}
use mathlib.Core.List.{List}
use native.Mathlib.Omega.{arith}
use native.Mathlib.Bridge.{le_prop}
use native.Mathlib.Numerals.{sub-one}
use lib.Dec.{eqb, leb}
use lib.ListN.{length}
use borrow.Author.Tests.{eqb-false, eq-eqb, ne_eqb, le-leb, lt-leb}
use Rattle.laws.proofs.Cases.{by, whichever}
use Rattle.topics.specs.declared.matching.Matching.{Matching}
use Rattle.topics.specs.declared.matching.Matching.TheVariants.{Port}
use Rattle.tables.specs.Rules.{rule_plan}
use Rattle.tables.specs.declared.rules.TopicAction.{TopicAction}
use Rattle.tables.specs.declared.rules.TopicAction.TheVariants.{Allow}
use Rattle.tables.specs.declared.rules.QosPolicy.{QosPolicy}
use Rattle.tables.specs.Rules.{RulePlan}
use Rattle.monitor.specs.Calls.{fresh, tested, with_rule, add_rule}
use Rattle.monitor.specs.Sound.{Sound}
use Rattle.monitor.specs.State.{well_formed}
use Rattle.monitor.specs.declared.state.MqttMonitor.{MqttMonitor}
use Rattle.monitor.proofs.rule_calls.AddLaws.{add_number, add_takes, add_leaves}
use Rattle.monitor.proofs.PlainLaws.{holding, Plain, fresh_plain, add_plain, add_matching}
use Rattle.monitor.proofs.SoundCalls.{sound_fresh, sound_add}
use Rattle.rules_text.specs.RuleGroup.{rule_at, pattern_in}
use Rattle.trace.specs.Groups.{opening_of}
use Rattle.trace.specs.Trace.{Loaded, not_loaded, loaded_as, rule_into, rules_into, loaded_from, loaded, rules_of}
use Rattle.trace.specs.declared.groups.OpeningLines.{OpeningLines}
use Rattle.rules_text.specs.declared.read.RuleLines.{RuleLines}
use Rattle.trace.specs.declared.reading.Place.{Place}
use Rattle.trace.specs.declared.reading.Stop.{Stop}
use Rattle.trace.proofs.groups.GroupLaws.{opening_within}

-- rules after a refusal are not read
rules_stop : (k : ℕ) (s : List ℕ) (l : Loaded) → (l.number ≡ 0 → ⊥) → rules_into k s l ≡ l
unfolding rules_into
rules_stop zero s l z = refl
rules_stop (suc k) s l z = rw (ne_eqb _ _ z)

-- one rule more
rules_turn : (k : ℕ) (s : List ℕ) (l : Loaded) → 0 < k → l.number ≡ 0 → rules_into k s l ≡ rules_into (k - 1) s (rule_into l.monitor s l.line (rule_at s l.next))
unfolding rules_into
rules_turn zero s l h z = absurd (omega arith)
rules_turn (suc k) s l h z = rw (eq-eqb _ _ z, sub-one)

-- a fresh monitor, and then only rules: what the first has, and each rule that is added or refused leaves, the loaded monitor has
module _ (P : MqttMonitor → Type 0) (matching : Matching) (begins : (default : TopicAction) → P (fresh matching default))
    (goes_on : (m : MqttMonitor) (p : List ℕ) (action : TopicAction) (policy : QosPolicy) (rate : ℕ) → P m → P (add_rule m p action policy rate).monitor) where
  abbrev Holds : Loaded → Type 0
  Holds l = P l.monitor

  rule_holds : (m : MqttMonitor) (s : List ℕ) (line : ℕ) (r : RuleLines) → P m → Holds (rule_into m s line r)
  unfolding rule_into
  rule_holds m s line r h = whichever Holds (eqb r.number 0) (goes_on m _ _ _ _ h) h

  rules_hold : (k : ℕ) (s : List ℕ) (l : Loaded) → Holds l → Holds (rules_into k s l)
  unfolding rules_into
  rules_hold zero s l h = h
  rules_hold (suc k) s l h =
      let next : Loaded = rule_into l.monitor s l.line (rule_at s l.next) in
      whichever Holds (eqb l.number 0) (rules_hold k s next (rule_holds l.monitor s l.line (rule_at s l.next) h)) h

  pub loaded_holds : (s : List ℕ) → P (loaded matching s).monitor
  unfolding loaded loaded_from
  loaded_holds s =
      let o = opening_of s in
      whichever Holds (leb (length s) 65536)
      (whichever Holds (eqb o.number 0) (rules_hold o.rules s (not_loaded 0 2 o.next (fresh matching o.default_action)) (begins _)) (begins _))
      (begins _)

-- its matcher is the one that was chosen
pub loaded_choice : (matching : Matching) (s : List ℕ) → (loaded matching s).monitor.matching ≡ matching
unfolding fresh
loaded_choice matching s =
    loaded_holds (λ m. m.matching ≡ matching) matching (λ default. refl) (λ m p action policy rate h. add_matching m p action policy rate ∙ h) s

-- the monitor that is loaded is a fresh one with the rules
pub loaded-monitor : (matching : Matching) (s : List ℕ)
    → let l = loaded matching s in holding matching l.monitor.default_action l.monitor.rules l.monitor.rule_count ≡ l.monitor
loaded-monitor matching s = rw (loaded_choice matching s) at (loaded_holds Plain matching (fresh_plain matching) add_plain s)

-- the same monitor with another choice, and what was loaded into it
abbrev choosing : Matching → MqttMonitor → MqttMonitor
choosing matching m =
    record {
      rules = m.rules;
      rule_count = m.rule_count;
      rate_buckets = m.rate_buckets;
      connect_windows = m.connect_windows;
      connect_storm_threshold = m.connect_storm_threshold;
      connect_storm_window_us = m.connect_storm_window_us;
      default_action = m.default_action;
      matching = matching;
      ewma_trackers = m.ewma_trackers;
      next_alert_id = m.next_alert_id;
      total_inspected = m.total_inspected;
      total_alerts = m.total_alerts;
    }

abbrev loaded_by : Matching → Loaded → Loaded
loaded_by matching l = not_loaded l.number l.line l.next (choosing matching l.monitor)

-- a rule is added alike, and all of them are: the choice is asked for nowhere
module _ (matching : Matching) where
  added_alike : (m : MqttMonitor) (p : List ℕ) (action : TopicAction) (policy : QosPolicy) (rate : ℕ)
      → let a = add_rule m p action policy rate in
      add_rule (choosing matching m) p action policy rate ≡ record { outcome = a.outcome; monitor = choosing matching a.monitor }
  unfolding add_rule well_formed
  added_alike m p action policy rate =
      by (eqb (tested m (rule_plan m.rules m.rule_count p action policy rate).number) 0) (λ e. rw e) (λ e. rw e)

  rule_alike : (m : MqttMonitor) (s : List ℕ) (line : ℕ) (r : RuleLines) → rule_into (choosing matching m) s line r ≡ loaded_by matching (rule_into m s line r)
  unfolding rule_into
  rule_alike m s line r =
      by (eqb r.number 0) (λ e. rw (e, added_alike m (pattern_in s r) r.action r.qos_policy r.rate)) (λ e. rw e)

  rules_alike : (k : ℕ) (s : List ℕ) (l : Loaded) → rules_into k s (loaded_by matching l) ≡ loaded_by matching (rules_into k s l)
  unfolding rules_into
  rules_alike zero s l = refl
  rules_alike (suc k) s l =
      by (eqb l.number 0)
      (λ e. rw (e, rule_alike l.monitor s l.line (rule_at s l.next)) (rules_alike k s (rule_into l.monitor s l.line (rule_at s l.next))))
      (λ e. rw e)

  pub loaded_alike : (s : List ℕ) → loaded matching s ≡ loaded_by matching (loaded Port s)
  unfolding loaded loaded_from fresh
  loaded_alike s =
      let o = opening_of s in
      by (leb (length s) 65536)
      (λ e.
      by (eqb o.number 0)
      (λ z. rw (e, z) (rules_alike o.rules s (not_loaded 0 2 o.next (fresh Port o.default_action))))
      (λ z. rw (e, z)))
      (λ e. rw e)

  -- so the rules that are loaded are the same
  pub same_rules : (s : List ℕ) → rules_of (loaded Port s) ≡ rules_of (loaded matching s)
  same_rules s = ap rules_of (sym (loaded_alike s))

-- the text is too long
pub load_long : (matching : Matching) (s : List ℕ) → 65536 < length s → not_loaded 27 0 0 (fresh matching Allow) ≡ loaded matching s
unfolding loaded
load_long matching s h = rw (lt-leb _ _ h)

-- the opening is refused
pub load_none : (matching : Matching) (s : List ℕ) {o : OpeningLines} → length s ≤ 65536 → o ≡ opening_of s → (o.number ≡ 0 → ⊥)
    → not_loaded o.number (1 + o.line) o.next (fresh matching o.default_action) ≡ loaded matching s
unfolding loaded loaded_from
load_none matching s h e z = rw (le-leb _ _ h, ← e, ne_eqb _ _ z)

-- a rule that was read goes into a monitor: its lines are refused, the table does not take it, or it has a place
module _ (m : MqttMonitor) (s : List ℕ) (line : ℕ) (r : RuleLines) where
  pub rule_stop : (r.number ≡ 0 → ⊥) → not_loaded r.number (line + 1 + r.line) r.next m ≡ rule_into m s line r
  unfolding rule_into
  rule_stop z = rw (ne_eqb _ _ z)

  module _ (formed : well_formed m ≡ true) (z : r.number ≡ 0) {p : List ℕ} (pe : p ≡ pattern_in s r) {plan : RulePlan}
      (de : plan ≡ rule_plan m.rules m.rule_count p r.action r.qos_policy r.rate) where
    turn : not_loaded plan.number (line + 4) r.next (add_rule m p r.action r.qos_policy r.rate).monitor ≡ rule_into m s line r
    unfolding rule_into
    turn = rw (eq-eqb _ _ z, ← pe, add_number m p r.action r.qos_policy r.rate de formed)

    pub rule_refused : (plan.number ≡ 0 → ⊥) → not_loaded plan.number (line + 4) r.next m ≡ rule_into m s line r
    rule_refused y = rw (add_leaves m p r.action r.qos_policy r.rate de formed y) at turn

    pub rule_taken : plan.number ≡ 0 → not_loaded 0 (line + 4) r.next (with_rule m plan) ≡ rule_into m s line r
    rule_taken y = rw (y, add_takes m p r.action r.qos_policy r.rate de formed y) at turn

rule_sound : {m : MqttMonitor} (s : List ℕ) (line : ℕ) (r : RuleLines) → Sound m → Sound (rule_into m s line r).monitor
unfolding rule_into
rule_sound s line r h = whichever (λ (l : Loaded). Sound l.monitor) (eqb r.number 0) (sound_add h _ _ _ _) h

-- a rule that was loaded has four lines
rule_line : (m : MqttMonitor) (s : List ℕ) (line : ℕ) (r : RuleLines) → (rule_into m s line r).number ≡ 0 → (rule_into m s line r).line ≡ line + 4
unfolding rule_into
rule_line m s line r = by (eqb r.number 0) (λ t. rw t (λ e. refl)) (λ t. rw t (λ e. absurd (eqb-false _ _ t e)))

-- so many rules are left after so many lines
pub record Loading (matching : Matching) (s : List ℕ) (left : ℕ) (place : Place) (m : MqttMonitor) : Type 0 where
  pub short : place.line + 4 * left ≤ 130
  pub sound : Sound m
  pub rest : rules_into left s (loaded_as (Ok place) m) ≡ loaded matching s

-- after the opening
pub load_start : (matching : Matching) (s : List ℕ) {o : OpeningLines} → length s ≤ 65536 → o ≡ opening_of s → o.number ≡ 0
    → Loading matching s o.rules (record { next = o.next; line = 2 }) (fresh matching o.default_action)
unfolding loaded loaded_from
load_start matching s {o} h e z =
    record {
      short = omega (arith, (opening_within s e).count);
      sound = sound_fresh matching o.default_action;
      rest = rw (le-leb _ _ h, ← e, eq-eqb _ _ z);
    }

module _ {matching : Matching} {s : List ℕ} {left : ℕ} {place : Place} {m : MqttMonitor} (l : Loading matching s left place m) where
  module _ (more : 0 < left) where
    -- a rule is refused
    pub load_stop : (stop : Stop) {m' : MqttMonitor} → loaded_as (Err stop) m' ≡ rule_into m s place.line (rule_at s place.next) → loaded_as (Err stop) m' ≡ loaded matching s
    load_stop stop {m'} e =
        let z : stop.number ≡ 0 → ⊥ = λ z. omega (arith, z, stop.refused) in
        sym (rules_stop (left - 1) s (loaded_as (Err stop) m') z) ∙ ap (λ (x : Loaded). rules_into (left - 1) s x) e
        ∙ sym (rules_turn left s (loaded_as (Ok place) m) more refl) ∙ l.rest

    -- it is loaded
    pub load_turn : {next : Place} {m' : MqttMonitor} {left' : ℕ} → loaded_as (Ok next) m' ≡ rule_into m s place.line (rule_at s place.next) → left' + 1 ≡ left
        → Loading matching s left' next m'
    load_turn {next} {m'} {left'} e n =
        let fewer : left' ≡ left - 1 = omega arith in
        record {
          short = omega (arith, l.short, n, (rw (← e) at (rule_line m s place.line (rule_at s place.next))) refl);
          sound = rw (← e) at (rule_sound s place.line (rule_at s place.next) l.sound);
          rest = rw fewer (ap (λ (x : Loaded). rules_into (left - 1) s x) e ∙ sym (rules_turn left s (loaded_as (Ok place) m) more refl) ∙ l.rest);
        }

  -- all rules are loaded
  pub load_end : left ≤ 0 → loaded_as (Ok place) m ≡ loaded matching s
  unfolding rules_into
  load_end h = let z : left ≡ 0 = omega arith in rw z at l.rest

-- two stops of one number, line and place are the same
same_stop : {m n line last next other : ℕ} → m ≡ n → line ≡ last → next ≡ other → (r : 1 ≤ m) (s : 1 ≤ n)
    → ◌≡◌ {A = Stop} (record { number = m; line = line; next = next; refused = r }) (record { number = n; line = last; next = other; refused = s })
same_stop {m} {n} {line} {last} {next} {other} e f g =
    rw (e, f, g) (λ (r s : 1 ≤ n). ap (λ (x : 1 ≤ n). record { number = n; line = last; next = other; refused = x }) (le_prop r s))

-- what is loaded tells the answer and the monitor
pub loaded_once : (r s : Result Place Stop) (m n : MqttMonitor) → loaded_as r m ≡ loaded_as s n → (r ≡ s) × (m ≡ n)
loaded_once (Ok p) (Ok q) m n e =
    let next : p.next ≡ q.next = ap (λ (l : Loaded). l.next) e in
    let line : p.line ≡ q.line = ap (λ (l : Loaded). l.line) e in
    (rw (next, line), ap (λ (l : Loaded). l.monitor) e)
loaded_once (Ok p) (Err q) m n e = let k = ap (λ (l : Loaded). l.number) e in absurd (omega (arith, k, q.refused))
loaded_once (Err p) (Ok q) m n e = let k = ap (λ (l : Loaded). l.number) e in absurd (omega (arith, k, p.refused))
loaded_once (Err p) (Err q) m n e =
    let next : p.next ≡ q.next = ap (λ (l : Loaded). l.next) e in
    let line : p.line ≡ q.line = ap (λ (l : Loaded). l.line) e in
    let number : p.number ≡ q.number = ap (λ (l : Loaded). l.number) e in
    (ap Err (same_stop number line next p.refused q.refused), ap (λ (l : Loaded). l.monitor) e)
