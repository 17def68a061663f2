-- A message that is neither a CONNECT nor a Publish asks no table: no window by its type, no bucket since only a Publish reaches the limiter, no tracker since only a Publish feeds one. So its plan is
-- made of its gate, and where no place lies in a table nothing is stored. Assumes nothing.
use mathlib.Core.Bool.{Bool, true, false, not, ◌&&◌}
use mathlib.Core.List.{List}
use mathlib.Core.Path.{◌≡◌, refl}
use Prim.Native.Nat.{ℕ}
use lib.Dec.{eqb, ltb}
use borrow.Author.Tests.{eq-eqb, not-true}
use Rattle.laws.specs.Lists.{none}
use Rattle.laws.proofs.Cases.{choose, clash}
use Rattle.laws.proofs.Tests.{fails, neither}
use Rattle.topics.specs.Names.{starts_with_dollar, bad_publish}
use Rattle.monitor.specs.Alerts.{counted}
use Rattle.monitor.specs.Gate.{is_block, is_topical, gate_after, gate_of, ruling_of}
use Rattle.monitor.specs.Inspect.{applied}
use Rattle.monitor.specs.Light.{is_light, light_plan, Light}
use Rattle.monitor.specs.Message.{type_number}
use Rattle.monitor.specs.Plan.{gate_in, plan_from, plan_of, seen_of, spent_of, fed_of}
use Rattle.monitor.specs.State.{with_counters}
use Rattle.monitor.specs.declared.gate.Gate.{Gate}
use Rattle.monitor.specs.declared.gate.Ruling.{Ruling}
use Rattle.monitor.specs.declared.message.MqttMessage.{MqttMessage}
use Rattle.monitor.specs.declared.plan.Plan.{Plan}
use Rattle.monitor.specs.declared.state.MqttMonitor.{MqttMonitor}
use Rattle.monitor.proofs.Link.{reaching}

module _ (matcher : List ℕ → List ℕ → Bool) (m : MqttMonitor) (msg : MqttMessage) (topic : List ℕ) (light : is_light msg ≡ true) where
  other : (eqb (type_number msg.packet_type) 1 ≡ false) × (eqb (type_number msg.packet_type) 3 ≡ false)
  other = neither (eqb (type_number msg.packet_type) 1) (eqb (type_number msg.packet_type) 3) (not-true _ light)

  -- the limiter is not asked
  no_rate : ltb 0 (gate_in matcher m msg topic).rate ≡ false
  no_rate =
      fails (ltb 0 (gate_in matcher m msg topic).rate)
      (λ h. clash (eq-eqb _ _ (reaching matcher m.rules m.rule_count m.default_action msg topic h).publish) other.1)

  -- nor the tracker
  no_feed : (gate_in matcher m msg topic).feeds ≡ false
  unfolding gate_of gate_after
  no_feed =
      let P : Gate → Type 0 = λ (g : Gate). g.feeds ≡ false in
      let r : Ruling = ruling_of matcher m.rules m.rule_count m.default_action topic in
      choose P (not (is_topical (type_number msg.packet_type))) (λ _. refl)
      (λ _. choose P (none topic) (λ _. refl)
      (λ _. choose P (eqb (type_number msg.packet_type) 3 && bad_publish topic) (λ _. refl)
      (λ _. choose P (eqb (type_number msg.packet_type) 8 && starts_with_dollar topic && not (r.found && not (is_block r.action))) (λ _. refl)
      (λ _. choose P (is_block r.action) (λ _. refl) (λ _. rw other.1)))))

  light_plan_lem : (payload : List ℕ) → plan_of matcher m msg topic payload ≡ light_plan m.next_alert_id m.total_alerts msg payload (gate_in matcher m msg topic)
  unfolding plan_of seen_of spent_of fed_of light_plan
  light_plan_lem payload = rw (other.0, no_rate, no_feed)

  light_kept : (payload : List ℕ) {p : Plan} → p ≡ plan_of matcher m msg topic payload
      → applied m p ≡ with_counters m p.raised.next_id (counted m.total_inspected) p.raised.total
  unfolding applied plan_from light_plan
  light_kept payload e = rw (e, light_plan_lem payload)

pub light : Light
light =
    record {
      plan = λ matcher m msg topic payload e. light_plan_lem matcher m msg topic e payload;
      kept = λ matcher m msg topic payload e. light_kept matcher m msg topic e payload refl;
    }
