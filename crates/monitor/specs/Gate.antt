-- Document 01, "Order inside one inspection", as far as rules, message and topic decide it: which kind denies, what is asked of the limiter and of the
-- tracker. `matcher` is that of the rules (topic, then pattern).
-- Assumes nothing.
use Rattle.std.specs.Prelude.{Bool, true, false, cond, not, ◌&&◌, ◌||◌, List, ℕ, min, eqb, ltb, get_or}
use Rattle.laws.specs.Lists.{none}
use Rattle.topics.specs.Names.{is_broad, starts_with_dollar, bad_publish}
use Rattle.tables.specs.Rules.{qos_ok, first_rule, no_rule}
use Rattle.tables.specs.declared.rules.QosPolicy.TheVariants.{Any}
use Rattle.tables.specs.declared.rules.TopicAction.{TopicAction}
use Rattle.tables.specs.declared.rules.TopicAction.TheVariants.{Allow, Block}
use Rattle.tables.specs.declared.rules.TopicRule.{TopicRule}
use Rattle.monitor.specs.Message.{type_number}
use Rattle.monitor.specs.declared.gate.Stage.{Stage}
use Rattle.monitor.specs.declared.gate.Stage.TheVariants.{Early, NoRule, Rule}
use Rattle.monitor.specs.declared.gate.Ruling.{Ruling}
use Rattle.monitor.specs.declared.gate.Gate.{Gate}
use Rattle.monitor.specs.declared.message.MqttMessage.{MqttMessage}

-- a rule's or the default's action blocks
abbrev pub is_block : TopicAction → Bool
is_block Allow = false
is_block Block = true

-- the ruling of the rule at a place
abbrev pub ruled_by : TopicRule → ℕ → Ruling
ruled_by r at = record { found = true; at = at; action = r.action; qos_policy = r.qos_policy; rate = r.max_rate_per_sec }

-- the ruling where no rule matches
abbrev pub ruled_by_default : TopicAction → ℕ → Ruling
ruled_by_default default at = record { found = false; at = at; action = default; qos_policy = Any; rate = 0 }

-- first matching rule, else the default
unfoldable pub ruling_of : (List ℕ → List ℕ → Bool) → List TopicRule → ℕ → TopicAction → List ℕ → Ruling
ruling_of matcher rules n default topic =
    cond (ltb (first_rule matcher topic rules n) (min n 32))
    (ruled_by (get_or rules (first_rule matcher topic rules n) no_rule) (first_rule matcher topic rules n))
    (ruled_by_default default (first_rule matcher topic rules n))

-- how far a ruling came
abbrev pub stage_of : Ruling → Stage
stage_of r = cond r.found (Rule r.at) NoRule

-- ended here, before rule choice; denied by a kind, or not by 0
abbrev pub ends_early : ℕ → Gate
ends_early denial = record { stage = Early; denial = denial; broad = false; qos = false; rate = 0; feeds = false }

-- denied after rule choice
abbrev pub denied_by : ℕ → Bool → Ruling → Gate
denied_by denial broad r = record { stage = stage_of r; denial = denial; broad = broad; qos = false; rate = 0; feeds = false }

-- not denied by rules: QoS policy, then limiter and tracker, which only a Publish asks
abbrev pub goes_on : MqttMessage → Bool → Ruling → Gate
goes_on msg broad r =
    record {
      stage = stage_of r;
      denial = 0;
      broad = broad;
      qos = not (qos_ok r.qos_policy msg.qos);
      rate = cond (eqb (type_number msg.packet_type) 3) r.rate 0;
      feeds = eqb (type_number msg.packet_type) 3 && ltb 0 msg.payload_len;
    }

-- after rule choice. A Subscribe to exactly `#`, `+` or `+/#` is 11 and goes on; one with a leading dollar and no matching Allow rule is 10; Block is 3
unfoldable pub gate_after : MqttMessage → List ℕ → Ruling → Gate
gate_after msg topic r =
    cond (eqb (type_number msg.packet_type) 8 && starts_with_dollar topic && not (r.found && not (is_block r.action)))
    (denied_by 10 (is_broad topic) r)
    (cond (is_block r.action)
    (denied_by 3 (eqb (type_number msg.packet_type) 8 && is_broad topic) r)
    (goes_on msg (eqb (type_number msg.packet_type) 8 && is_broad topic) r))

-- types whose topic is looked at: Publish, Subscribe, Unsubscribe
abbrev pub is_topical : ℕ → Bool
is_topical n = eqb n 3 || eqb n 8 || eqb n 10

-- the gate: other types end; an empty topic is 2; a Publish with zero, `+` or `#` is 9; then the first matching rule, else the default
unfoldable pub gate_of : (List ℕ → List ℕ → Bool) → List TopicRule → ℕ → TopicAction → MqttMessage → List ℕ → Gate
gate_of matcher rules n default msg topic =
    cond (not (is_topical (type_number msg.packet_type))) (ends_early 0)
    (cond (none topic) (ends_early 2)
    (cond (eqb (type_number msg.packet_type) 3 && bad_publish topic) (ends_early 9)
    (gate_after msg topic (ruling_of matcher rules n default topic))))
