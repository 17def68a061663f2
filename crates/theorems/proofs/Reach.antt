-- Which messages reach the limiter, in document 01's words (`rate_of` in specs/Run.antt), are those to which the gate hands out a rate, and it is the same rate: under any matcher,
-- for every state and call. Assumes nothing.
use mathlib.Core.Bool.{Bool, true, false, cond, ◌&&◌, false≢true}
use mathlib.Core.List.{List, [], ◌∷◌}
use mathlib.Core.Path.{◌≡◌, refl, sym, ◌∙◌}
use Prim.Native.Nat.{ℕ, ◌≤◌, min}
use native.Mathlib.Omega.{arith}
use borrow.Author.Tests.{eqb-true, ltb-true, ltb-false}
use lib.Dec.{eqb, ltb}
use lib.ListN.{length, get_or, take, length-take, get_or-eq_default}
use lib.Seq.{get_or-take}
use Rattle.laws.specs.Lists.{none, every}
use Rattle.laws.proofs.Tests.{both}
use Rattle.laws.proofs.Cases.{by}
use Rattle.topics.specs.Names.{bad_publish}
use Rattle.tables.specs.Rules.{pattern_of, rule_fine, first_rule, no_rule}
use Rattle.tables.specs.Scan.{find}
use Rattle.tables.specs.declared.rules.TopicAction.{TopicAction}
use Rattle.tables.specs.declared.rules.TopicAction.TheVariants.{Allow, Block}
use Rattle.tables.specs.declared.rules.TopicRule.{TopicRule}
use Rattle.monitor.specs.Gate.{is_block, ruling_of, gate_after, gate_of}
use Rattle.monitor.specs.Inspect.{inspect_refusal}
use Rattle.monitor.specs.Message.{type_number}
use Rattle.monitor.specs.Plan.{gate_in}
use Rattle.monitor.specs.Runs.{Call}
use Rattle.monitor.specs.State.{well_formed}
use Rattle.monitor.specs.declared.gate.Gate.{Gate}
use Rattle.monitor.specs.declared.gate.Ruling.{Ruling}
use Rattle.monitor.specs.declared.message.MqttMessage.{MqttMessage}
use Rattle.monitor.specs.declared.state.MqttMonitor.{MqttMonitor}
use Rattle.monitor.proofs.state.FormedLaws.{formed_parts}
use Rattle.monitor.proofs.Link.{reaching}
use Rattle.theorems.specs.Run.{Matcher, used, is_publish, rate_if, first_rate, rate_of}

-- a gate behind an action
blocked : (a : TopicAction) (rate : ℕ) (g k : Gate) → g.rate ≡ 0 → k.rate ≡ rate → (cond (is_block a) g k).rate ≡ rate_if a rate
blocked Allow rate g k z e = e
blocked Block rate g k z e = z

-- no rate is none under either action
rate_none : (a : TopicAction) → rate_if a 0 ≡ 0
rate_none Allow = refl
rate_none Block = refl

-- after rule choice a Publish gets the ruling's rate, and none where it blocks
after_rate : (msg : MqttMessage) (topic : List ℕ) (r : Ruling) → type_number msg.packet_type ≡ 3 → (gate_after msg topic r).rate ≡ rate_if r.action r.rate
unfolding gate_after
after_rate msg topic r q = rw q (blocked r.action r.rate _ _ refl refl)

module _ (matcher : Matcher) (topic : List ℕ) where
  -- a rule that takes the topic
  abbrev takes : TopicRule → Bool
  takes r = r.active && matcher topic (pattern_of r)

  -- the rate of the rule that is found, also where none is: past the end stands Allow with rate 0
  at_first : (l : List TopicRule) → every rule_fine l ≡ true
      → rate_if (get_or l (find takes l) no_rule).action (get_or l (find takes l) no_rule).max_rate_per_sec ≡ first_rate matcher topic l
  unfolding every rule_fine find first_rate
  at_first [] f = refl
  at_first (r ∷ rs) f =
      let b = both (rule_fine r) (every rule_fine rs) f in
      let live : r.active ≡ true = (both _ _ (both _ _ b.0).0).0 in
      by (matcher topic (pattern_of r)) (λ h. rw (live, h, find)) (λ h. rw (live, h, find) (at_first rs b.1))

  -- the rate of the ruling
  ruling_rate : (rules : List TopicRule) (n : ℕ) (default : TopicAction) → n ≤ 32 → every rule_fine (take n rules) ≡ true
      → rate_if (ruling_of matcher rules n default topic).action (ruling_of matcher rules n default topic).rate ≡ first_rate matcher topic (take n rules)
  unfolding ruling_of first_rule
  ruling_rate rules n default l f =
      let place : ℕ = find takes (take n rules) in
      let found = at_first (take n rules) f in
      by (ltb place (min n 32))
      (λ h.
      let i = get_or-take n rules place no_rule (omega (arith, ltb-true place (min n 32) h)) in
      rw h (rw i at found))
      (λ h.
      let past : length (take n rules) ≤ place = omega (arith, length-take n rules, ltb-false place (min n 32) h) in
      let i = get_or-eq_default (take n rules) no_rule {n = place} past in
      rw h (rate_none default ∙ (rw i at found)))

module _ (matcher : Matcher) (m : MqttMonitor) (c : Call) where
  -- a call that is refused reaches nothing
  pub no_rate : eqb (inspect_refusal m c.msg c.topic c.payload) 0 ≡ false → rate_of matcher m c ≡ 0
  unfolding rate_of
  no_rate e = rw e

  module _ (e : eqb (inspect_refusal m c.msg c.topic c.payload) 0 ≡ true) where
    -- then the state is well formed
    formed : well_formed m ≡ true
    unfolding inspect_refusal
    formed = by (well_formed m) (λ w. w) (λ w. absurd (false≢true (rw w at e)))

    -- no Publish: the gate hands out no rate
    other_type : is_publish c ≡ false → (gate_in matcher m c.msg (used c)).rate ≡ 0
    other_type t =
        by (ltb 0 (gate_in matcher m c.msg (used c)).rate)
        (λ h.
        let r = reaching matcher m.rules m.rule_count m.default_action c.msg (used c) h in
        absurd (false≢true (sym (rw r.publish at t))))
        (λ h. omega (arith, ltb-false 0 (gate_in matcher m c.msg (used c)).rate h))

    -- a Publish
    publish : type_number c.msg.packet_type ≡ 3 → (gate_in matcher m c.msg (used c)).rate ≡ rate_of matcher m c
    unfolding gate_of rate_of
    publish q =
        let h = formed_parts m formed in
        by (none (used c)) (λ n. rw (q, e, n))
        (λ n.
        by (bad_publish (used c)) (λ b. rw (q, e, n, b))
        (λ b.
        rw (q, e, n, b)
        (after_rate c.msg (used c) _ q ∙ ruling_rate matcher (used c) m.rules m.rule_count m.default_action h.count h.rules_fine)))

    -- the gate's rate is the document's
    pub gate_rate : (gate_in matcher m c.msg (used c)).rate ≡ rate_of matcher m c
    unfolding rate_of
    gate_rate = by (is_publish c) (λ t. publish (eqb-true _ _ t)) (λ t. rw (e, t) (other_type t))
