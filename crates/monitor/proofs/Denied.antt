-- Document 01, "Order inside one inspection": a message is denied exactly when kind 1, 2, 3, 5, 6, 9 or 10 was raised. Under any matcher. Assumes nothing.
use mathlib.Core.Bool.{Bool, not}
use mathlib.Core.List.{List}
use mathlib.Core.Path.{◌≡◌, sym, ap, ◌∙◌}
use Prim.Native.Nat.{ℕ}
use lib.ListN.{take}
use Rattle.laws.specs.Lists.{some}
use Rattle.monitor.specs.Alerts.{kinds_of, denies, kinds_among}
use Rattle.monitor.specs.Inspect.{inspect_with}
use Rattle.monitor.specs.Message.{used_topic, used_payload}
use Rattle.monitor.specs.Plan.{plan_from, plan_of, findings_in}
use Rattle.monitor.specs.Told.{DeniedByKind}
use Rattle.monitor.specs.declared.message.MqttMessage.{MqttMessage}
use Rattle.monitor.specs.declared.state.MqttMonitor.{MqttMonitor}
use Rattle.monitor.proofs.Four.{all_told}
use Rattle.monitor.proofs.FoundLaws.{found_settled}
use Rattle.monitor.proofs.alerts.KindLaws.{kinds_deny}

module _ (matcher : List ℕ → List ℕ → Bool) (m : MqttMonitor) (msg : MqttMessage) (topic payload : List ℕ) where
  -- by what was found
  denied : (plan_of matcher m msg topic payload).allowed ≡ not (some denies (kinds_of (findings_in matcher m msg topic payload)))
  unfolding plan_of plan_from
  denied = found_settled matcher m msg topic payload ∙ ap not (sym (kinds_deny (findings_in matcher m msg topic payload)))

  -- by the alerts handed back
  denied_told : (plan_of matcher m msg topic payload).allowed
      ≡ not (some denies (kinds_among (plan_of matcher m msg topic payload).raised.count (plan_of matcher m msg topic payload).raised.alerts))
  denied_told = rw (all_told matcher m msg topic payload) denied

pub denied_by_kind : DeniedByKind
unfolding inspect_with
denied_by_kind matcher m c z = rw z (denied_told matcher m c.msg (take (used_topic c.msg) c.topic) (take (used_payload c.msg) c.payload))
