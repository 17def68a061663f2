-- What an inspection is to the limiter, under any matcher: refused, it changes nothing; where the gate hands out no rate, the buckets stay; where it does, the decision's
-- bucket is stored and the message is allowed exactly where the limiter lets it pass. Rules, the default and the matcher stay in every case. Assumes nothing.
use mathlib.Core.Bool.{Bool, true, false, cond, not, ◌&&◌, false≢true}
use mathlib.Core.List.{List}
use mathlib.Core.Path.{◌≡◌, refl, sym}
use Prim.Native.Nat.{ℕ}
use native.Mathlib.Omega.{arith}
use borrow.Author.Tests.{ltb-false, eqb-true}
use lib.Dec.{eqb, ltb}
use lib.ListN.{length, take}
use lib.Seq.{set_out}
use Rattle.laws.specs.Lists.{none}
use Rattle.laws.proofs.Cases.{by}
use Rattle.topics.specs.Names.{is_broad, starts_with_dollar, bad_publish}
use Rattle.tables.specs.Buckets.{decide}
use Rattle.tables.specs.Identity.{id_of}
use Rattle.tables.specs.declared.buckets.RateBucket.{RateBucket}
use Rattle.tables.specs.declared.buckets.RateDecision.{RateDecision}
use Rattle.tables.specs.declared.buckets.RateCheckResult.{RateCheckResult}
use Rattle.tables.specs.declared.buckets.RateCheckResult.TheVariants.{Allowed, Limited, EvictedAndDenied}
use Rattle.tables.specs.declared.rules.TopicAction.{TopicAction}
use Rattle.tables.specs.declared.rules.TopicRule.{TopicRule}
use Rattle.tables.proofs.buckets.StepLaws.{grants, stored}
use Rattle.monitor.specs.Chosen.{Keeps}
use Rattle.monitor.specs.Gate.{is_block, is_topical, ends_early, denied_by, goes_on, gate_after, gate_of, ruling_of}
use Rattle.monitor.specs.Inspect.{stored_at, applied, inspect_refusal, inspect_with}
use Rattle.monitor.specs.Message.{type_number, used_topic}
use Rattle.monitor.specs.Plan.{seen_of, spent_of, limiter_kind, denial_of, gate_in, plan_from, plan_of}
use Rattle.monitor.specs.declared.gate.Gate.{Gate}
use Rattle.monitor.specs.declared.gate.Ruling.{Ruling}
use Rattle.monitor.specs.declared.message.MqttMessage.{MqttMessage}
use Rattle.monitor.specs.declared.state.MqttMonitor.{MqttMonitor}

-- a gate that hands out a rate: it does not deny, and the message is a Publish
pub record Reaching (msg : MqttMessage) (g : Gate) : Type 0 where
  pub passes_gate : g.denial ≡ 0
  pub publish : type_number msg.packet_type ≡ 3

-- a chain of gates: the one in front has no rate
past : (msg : MqttMessage) (c : Bool) (g k : Gate) → g.rate ≡ 0 → (ltb 0 k.rate ≡ true → Reaching msg k) → ltb 0 (cond c g k).rate ≡ true → Reaching msg (cond c g k)
past msg true g k z f h = absurd (false≢true (rw z at h))
past msg false g k z f h = f h

passing : (msg : MqttMessage) (broad : Bool) (r : Ruling) → ltb 0 (goes_on msg broad r).rate ≡ true → Reaching msg (goes_on msg broad r)
passing msg broad r h =
    by (eqb (type_number msg.packet_type) 3)
    (λ e. record { passes_gate = refl; publish = eqb-true _ _ e })
    (λ e. absurd (false≢true (rw e at h)))

after_choice : (msg : MqttMessage) (topic : List ℕ) (r : Ruling) → ltb 0 (gate_after msg topic r).rate ≡ true → Reaching msg (gate_after msg topic r)
unfolding gate_after
after_choice msg topic r =
    let broad : Bool = eqb (type_number msg.packet_type) 8 && is_broad topic in
    past msg (eqb (type_number msg.packet_type) 8 && starts_with_dollar topic && not (r.found && not (is_block r.action))) (denied_by 10 (is_broad topic) r)
    (cond (is_block r.action) (denied_by 3 broad r) (goes_on msg broad r)) refl
    (past msg (is_block r.action) (denied_by 3 broad r) (goes_on msg broad r) refl (passing msg broad r))

pub reaching : (matcher : List ℕ → List ℕ → Bool) (rules : List TopicRule) (n : ℕ) (default : TopicAction) (msg : MqttMessage) (topic : List ℕ)
    → ltb 0 (gate_of matcher rules n default msg topic).rate ≡ true → Reaching msg (gate_of matcher rules n default msg topic)
unfolding gate_of
reaching matcher rules n default msg topic =
    let chosen : Gate = gate_after msg topic (ruling_of matcher rules n default topic) in
    let named : Gate = cond (eqb (type_number msg.packet_type) 3 && bad_publish topic) (ends_early 9) chosen in
    past msg (not (is_topical (type_number msg.packet_type))) (ends_early 0) (cond (none topic) (ends_early 2) named) refl
    (past msg (none topic) (ends_early 2) named refl
    (past msg (eqb (type_number msg.packet_type) 3 && bad_publish topic) (ends_early 9) chosen refl
    (after_choice msg topic (ruling_of matcher rules n default topic))))

-- the limiter's kind is 0 where it lets the message pass
kind_grants : (r : RateCheckResult) → eqb (limiter_kind r) 0 ≡ grants r
kind_grants Allowed = refl
kind_grants Limited = refl
kind_grants EvictedAndDenied = refl

-- a store at a place of a table of 32
stored_32 : (T : List RateBucket) (d : RateDecision) → length T ≡ 32 → stored_at 32 T d.at d.bucket ≡ stored T d
stored_32 T d l =
    by (ltb d.at 32) (λ e. rw e) (λ e. rw e (sym (set_out T d.at d.bucket (omega (arith, ltb-false d.at 32 e)))))

-- what the limiter decides on a message that uses a topic
abbrev pub decision_on : (List ℕ → List ℕ → Bool) → MqttMonitor → MqttMessage → List ℕ → RateDecision
decision_on matcher m msg topic = decide m.rate_buckets (id_of topic) (gate_in matcher m msg topic).rate msg.timestamp_us

-- two states of the same rules, default and matcher
pub record SameRules (m n : MqttMonitor) : Type 0 where
  pub rules_same : n.rules ≡ m.rules
  pub count_same : n.rule_count ≡ m.rule_count
  pub default_same : n.default_action ≡ m.default_action
  pub choice_same : Keeps m n

module _ (matcher : List ℕ → List ℕ → Bool) (m : MqttMonitor) (msg : MqttMessage) (topic payload : List ℕ) where
  pub refused : eqb (inspect_refusal m msg topic payload) 0 ≡ false → (inspect_with matcher m msg topic payload).monitor ≡ m
  unfolding inspect_with
  refused e = rw e

  -- rules, the default and the matcher stay
  pub rules_stay : SameRules m (inspect_with matcher m msg topic payload).monitor
  unfolding inspect_with applied
  rules_stay =
      by (eqb (inspect_refusal m msg topic payload) 0)
      (λ e. rw e (record { rules_same = refl; count_same = refl; default_same = refl; choice_same = refl }))
      (λ e. rw e (record { rules_same = refl; count_same = refl; default_same = refl; choice_same = refl }))

  -- where the gate hands out no rate
  pub not_asked : eqb (inspect_refusal m msg topic payload) 0 ≡ true → ltb 0 (gate_in matcher m msg (take (used_topic msg) topic)).rate ≡ false
      → (inspect_with matcher m msg topic payload).monitor.rate_buckets ≡ m.rate_buckets
  unfolding inspect_with applied plan_of plan_from spent_of
  not_asked e h = rw (e, h)

  -- where it does
  module _ (e : eqb (inspect_refusal m msg topic payload) 0 ≡ true) (h : ltb 0 (gate_in matcher m msg (take (used_topic msg) topic)).rate ≡ true) where
    pub asked : length m.rate_buckets ≡ 32
        → (inspect_with matcher m msg topic payload).monitor.rate_buckets ≡ stored m.rate_buckets (decision_on matcher m msg (take (used_topic msg) topic))
    unfolding inspect_with applied plan_of plan_from spent_of
    asked l = rw (e, h) (stored_32 m.rate_buckets (decision_on matcher m msg (take (used_topic msg) topic)) l)

    pub allowed : (inspect_with matcher m msg topic payload).result.allowed ≡ grants (decision_on matcher m msg (take (used_topic msg) topic)).result
    unfolding inspect_with plan_of plan_from spent_of denial_of seen_of
    allowed =
        let r = reaching matcher m.rules m.rule_count m.default_action msg (take (used_topic msg) topic) h in
        rw (e, r.publish, h, r.passes_gate) (kind_grants (decision_on matcher m msg (take (used_topic msg) topic)).result)
