-- Demand 3's limits are met: a run in which exactly as many messages are allowed as the upper half says, one in which a later message is allowed at the very microsecond that the
-- lower half names, and the night that started this project, in which one identity too
-- many is denied by kind 6 for as long as the lower half's bound of 32 lets it. docs/LIMITS.md tells both. The proofs are in proofs/Tight.antt, by computation.
-- Assumes nothing.
use Rattle.std.specs.Prelude.{◌≡◌, Bool, true, false, List, [], ◌∷◌, ◌++◌, ℕ, zero, suc, ◌+◌, ◌-◌, ◌*◌, ◌/◌, ◌≤◌, length, get_or}
use Rattle.slices.specs.Bytes.{bytes}
use Rattle.topics.specs.Matching.{port_matches}
use Rattle.topics.specs.declared.matching.Matching.TheVariants.{Port}
use Rattle.tables.specs.Identity.{id_of}
use Rattle.tables.specs.declared.rules.MqttQoS.TheVariants.{AtMostOnce}
use Rattle.tables.specs.declared.rules.QosPolicy.TheVariants.{Any}
use Rattle.tables.specs.declared.rules.TopicAction.TheVariants.{Allow, Block}
use Rattle.monitor.specs.Alerts.{no_alert}
use Rattle.monitor.specs.Calls.{fresh, add_rule}
use Rattle.monitor.specs.declared.alerts.MqttInspectResult.{MqttInspectResult}
use Rattle.monitor.specs.declared.message.MqttPacketType.TheVariants.{Publish}
use Rattle.monitor.specs.declared.state.MqttMonitor.{MqttMonitor}
use Rattle.monitor.specs.Runs.{Call, answer, after}
use Rattle.monitor.specs.Prepared.{Prepared}
use Rattle.theorems.specs.Run.{is_allowed, reaches, InOrder, OneRate, Silent, allowed_of, arrived}

-- a monitor that blocks all but the topics under `m`, each at a rate. Its rules are matched as the Rust does; nothing below depends on that
unfoldable pub hub : ℕ → MqttMonitor
hub rate = (add_rule (fresh Port Block) (bytes "m/+") Allow Any rate).monitor

-- a Publish of a topic without payload
unfoldable pub publish : List ℕ → ℕ → Call
publish topic t =
    record {
      msg =
          record {
            packet_type = Publish;
            topic_len = length topic;
            qos = AtMostOnce;
            payload_len = 0;
            payload_inspectable_len = 0;
            timestamp_us = t;
            timestamp_ok = true;
          };
      topic = topic;
      payload = [];
    }

-- rate 2, messages of one topic at 0, 0, 500000 and 1000000
unfoldable pub busy : List Call
busy = publish (bytes "m/a") 0 ∷ publish (bytes "m/a") 0 ∷ publish (bytes "m/a") 500000 ∷ publish (bytes "m/a") 1000000 ∷ []

-- the upper half's premises hold of this run, and all four of its messages are allowed: 2 + 2 x 1,000,000 / 1,000,000
pub record Met : Type 0 where
  pub prepared : Prepared (hub 2)
  pub in_order : InOrder busy
  pub one_rate : OneRate port_matches (hub 2) (id_of (bytes "m/a")) 2 busy
  pub exactly : allowed_of port_matches (hub 2) (id_of (bytes "m/a")) busy ≡ 2 + 2 * (1000000 - 0) / 1000000

-- rate 1, a message of one topic at 0, one of another, and the next of the first at a time
abbrev pub waits : ℕ → List Call
waits t = publish (bytes "m/a") 0 ∷ publish (bytes "m/b") 0 ∷ publish (bytes "m/a") t ∷ []

-- the next one's verdict
abbrev pub next_at : ℕ → Bool
next_at t = is_allowed port_matches (after port_matches (hub 1) (publish (bytes "m/a") 0 ∷ publish (bytes "m/b") 0 ∷ [])) (publish (bytes "m/a") t)

-- the lower half's premises hold of this run at 1,000,000, of its first messages and of the later one: 1 x 1,000,000 is not below 1,000,000. A microsecond sooner it is, and the later one is denied
pub record MetLater : Type 0 where
  pub prepared : Prepared (hub 1)
  pub in_order : InOrder (waits 1000000)
  pub few : length (arrived port_matches (hub 1) [] (waits 1000000)) ≤ 32
  pub one_rate : OneRate port_matches (hub 1) (id_of (bytes "m/a")) 1 (waits 1000000)
  pub reached : reaches port_matches (hub 1) (id_of (bytes "m/a")) (publish (bytes "m/a") 0) ≡ true
  pub silent : Silent port_matches (hub 1) (id_of (bytes "m/a")) (publish (bytes "m/b") 0 ∷ [])
  pub reached_later : reaches port_matches (hub 1) (id_of (bytes "m/a")) (publish (bytes "m/a") 1000000) ≡ true
  pub earned : 1000000 ≤ 1 * (1000000 - 0)
  pub allowed : next_at 1000000 ≡ true
  pub sooner : next_at 999999 ≡ false

-- a topic for each number: `m/0`, `m/1`, and so on
abbrev pub device : ℕ → List ℕ
device n = bytes "m/" ++ ((48 + n) ∷ [])

-- as many devices, one message each, at one time
unfoldable pub crowd : ℕ → ℕ → List Call
crowd zero t = []
crowd (suc n) t = publish (device n) t ∷ crowd n t

-- what a 33rd device is told, at a time, after 32 have come at 0
abbrev pub told : ℕ → MqttInspectResult
told t = (answer port_matches (after port_matches (hub 1) (crowd 32 0)) (publish (device 32) t)).result

-- for 300 seconds it is denied, by the one alert of kind 6; then it is allowed
pub record Night : Type 0 where
  pub identities : length (arrived port_matches (hub 1) [] (crowd 32 0 ++ publish (device 32) 0 ∷ [])) ≡ 33
  pub denied : ((told 300000000).allowed ≡ false) × ((told 300000000).alert_count ≡ 1) × ((get_or (told 300000000).alerts 0 no_alert).source_id ≡ 6)
  pub allowed : ((told 300000001).allowed ≡ true) × ((told 300000001).alert_count ≡ 0)
