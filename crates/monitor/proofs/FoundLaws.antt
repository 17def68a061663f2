-- What holds of whatever is found of a message, under any matcher: the kind that denies it is 0 or one of the seven that deny, and what feeds the tracker is no broad
-- Subscribe. Assumes nothing.
use mathlib.Core.Bool.{Bool, true, false, not, ◌&&◌}
use mathlib.Core.List.{List}
use mathlib.Core.Path.{◌≡◌, refl}
use Prim.Native.Nat.{ℕ}
use borrow.Author.Tests.{eqb-true}
use lib.Dec.{eqb, ltb}
use Rattle.laws.specs.Lists.{none}
use Rattle.laws.proofs.Cases.{whichever}
use Rattle.laws.proofs.Tests.{both}
use Rattle.topics.specs.Names.{is_broad, starts_with_dollar, bad_publish}
use Rattle.tables.specs.declared.buckets.RateCheckResult.{RateCheckResult}
use Rattle.tables.specs.declared.buckets.RateCheckResult.TheVariants.{Allowed, Limited, EvictedAndDenied}
use Rattle.tables.specs.declared.buckets.RateDecision.{RateDecision}
use Rattle.tables.specs.declared.rules.TopicAction.{TopicAction}
use Rattle.tables.specs.declared.rules.TopicRule.{TopicRule}
use Rattle.tables.specs.declared.windows.ConnectDecision.{ConnectDecision}
use Rattle.monitor.specs.Alerts.{denies}
use Rattle.monitor.specs.Gate.{is_block, is_topical, ends_early, denied_by, goes_on, gate_after, gate_of, ruling_of}
use Rattle.monitor.specs.Message.{type_number}
use Rattle.monitor.specs.Plan.{limiter_kind, denial_of, fed_of, plan_from, plan_of, findings_in}
use Rattle.monitor.specs.declared.gate.Gate.{Gate}
use Rattle.monitor.specs.declared.gate.Ruling.{Ruling}
use Rattle.monitor.specs.declared.message.MqttMessage.{MqttMessage}
use Rattle.monitor.specs.declared.state.MqttMonitor.{MqttMonitor}

-- 0, or a kind that denies
abbrev pub Settled : ℕ → Type 0
Settled k = eqb k 0 ≡ not (denies k)

-- a gate that denies by such a kind, and that is not both of a broad Subscribe and feeding
record Fair (g : Gate) : Type 0 where
  settled : Settled g.denial
  apart : g.broad ≡ true → g.feeds ≡ false

-- a Subscribe is no Publish
apart_types : (n : ℕ) (b c : Bool) → eqb n 8 && b ≡ true → eqb n 3 && c ≡ false
apart_types n b c h = rw (eqb-true n 8 (both (eqb n 8) b h).0)

-- the ways a gate ends
ends_fair : (k : ℕ) → Settled k → Fair (ends_early k)
ends_fair k s = record { settled = s; apart = λ e. refl }

denied_fair : (k : ℕ) (broad : Bool) (r : Ruling) → Settled k → Fair (denied_by k broad r)
denied_fair k broad r s = record { settled = s; apart = λ e. refl }

passes_fair : (msg : MqttMessage) (topic : List ℕ) (r : Ruling) → Fair (goes_on msg (eqb (type_number msg.packet_type) 8 && is_broad topic) r)
unfolding denies
passes_fair msg topic r =
    record { settled = refl; apart = apart_types (type_number msg.packet_type) (is_broad topic) (ltb 0 msg.payload_len) }

after_fair : (msg : MqttMessage) (topic : List ℕ) (r : Ruling) → Fair (gate_after msg topic r)
unfolding gate_after denies
after_fair msg topic r =
    let subscribe = eqb (type_number msg.packet_type) 8 in
    whichever Fair (subscribe && starts_with_dollar topic && not (r.found && not (is_block r.action))) (denied_fair 10 (is_broad topic) r refl)
    (whichever Fair (is_block r.action) (denied_fair 3 (subscribe && is_broad topic) r refl) (passes_fair msg topic r))

-- every gate
fair : (matcher : List ℕ → List ℕ → Bool) (rules : List TopicRule) (n : ℕ) (default : TopicAction) (msg : MqttMessage) (topic : List ℕ)
    → Fair (gate_of matcher rules n default msg topic)
unfolding gate_of denies
fair matcher rules n default msg topic =
    let type = type_number msg.packet_type in
    whichever Fair (not (is_topical type)) (ends_fair 0 refl)
    (whichever Fair (none topic) (ends_fair 2 refl)
    (whichever Fair (eqb type 3 && bad_publish topic) (ends_fair 9 refl) (after_fair msg topic (ruling_of matcher rules n default topic))))

-- the limiter's kind
limiter_settled : (r : RateCheckResult) → Settled (limiter_kind r)
unfolding denies
limiter_settled Allowed = refl
limiter_settled Limited = refl
limiter_settled EvictedAndDenied = refl

-- the one that denies the message
denial_settled : (seen : ConnectDecision) (g : Gate) (spent : RateDecision) → Fair g → Settled (denial_of seen g spent)
unfolding denial_of denies
denial_settled seen g spent f =
    whichever Settled seen.storm refl (whichever Settled (ltb 0 g.denial) f.settled (limiter_settled spent.result))

-- a plan's
module _ (matcher : List ℕ → List ℕ → Bool) (m : MqttMonitor) (msg : MqttMessage) (topic payload : List ℕ) where
  gate_fair : Fair (gate_of matcher m.rules m.rule_count m.default_action msg topic)
  gate_fair = fair matcher m.rules m.rule_count m.default_action msg topic

  pub found_settled : Settled (findings_in matcher m msg topic payload).denial
  found_settled = denial_settled _ _ _ gate_fair

  pub found_apart : (findings_in matcher m msg topic payload).broad ≡ true → (findings_in matcher m msg topic payload).anomaly ≡ false
  unfolding plan_of plan_from fed_of
  found_apart e = rw (gate_fair.apart e)
