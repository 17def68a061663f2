-- A message's numbers and its used parts (document 01, "Forms that stand in the way": the first min(claimed, limit) bytes).
-- Assumes nothing.
use Rattle.std.specs.Prelude.{cond, ℕ, min, eqb}
use Rattle.monitor.specs.declared.message.MqttMessage.{MqttMessage}
use Rattle.monitor.specs.declared.message.MqttPacketType.{MqttPacketType}
use Rattle.monitor.specs.declared.message.MqttPacketType.TheVariants.{Connect, ConnAck, Publish, PubAck, PubRec, PubRel, PubComp}
use Rattle.monitor.specs.declared.message.MqttPacketType.TheVariants.{Subscribe, SubAck, Unsubscribe, UnsubAck, PingReq, PingResp, Disconnect, Auth}

-- a packet type's number in MQTT
abbrev pub type_number : MqttPacketType → ℕ
type_number Connect = 1
type_number ConnAck = 2
type_number Publish = 3
type_number PubAck = 4
type_number PubRec = 5
type_number PubRel = 6
type_number PubComp = 7
type_number Subscribe = 8
type_number SubAck = 9
type_number Unsubscribe = 10
type_number UnsubAck = 11
type_number PingReq = 12
type_number PingResp = 13
type_number Disconnect = 14
type_number Auth = 15

-- a packet type by its number, 1 to 15
abbrev pub type_at : ℕ → MqttPacketType
type_at k =
    cond (eqb k 1) Connect
    (cond (eqb k 2) ConnAck
    (cond (eqb k 3) Publish
    (cond (eqb k 4) PubAck
    (cond (eqb k 5) PubRec
    (cond (eqb k 6) PubRel
    (cond (eqb k 7) PubComp
    (cond (eqb k 8) Subscribe
    (cond (eqb k 9) SubAck
    (cond (eqb k 10) Unsubscribe
    (cond (eqb k 11) UnsubAck
    (cond (eqb k 12) PingReq
    (cond (eqb k 13) PingResp
    (cond (eqb k 14) Disconnect
    Auth)))))))))))))

-- how many bytes of the lent topic are used
abbrev pub used_topic : MqttMessage → ℕ
used_topic msg = min msg.topic_len 128

-- how many bytes of the lent payload are used
abbrev pub used_payload : MqttMessage → ℕ
used_payload msg = min msg.payload_inspectable_len 256
