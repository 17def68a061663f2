-- Request C-11: the messages of a packet. Time and verdict are the caller's. Topic and payload stay where they are: a message has their places in the bytes.
-- Assumes nothing.
use Rattle.std.specs.Prelude.{Bool, true, cond, List, map, ℕ, ◌+◌, ◌-◌, ◌≤◌, min, eqb, drop, Result, Ok, Err}
use Rattle.tables.specs.Numbers.{qos_at}
use Rattle.tables.specs.declared.rules.MqttQoS.TheVariants.{AtMostOnce}
use Rattle.monitor.specs.Message.{type_at}
use Rattle.monitor.specs.declared.message.MqttMessage.{MqttMessage}
use Rattle.monitor.specs.declared.message.MqttPacketType.TheVariants.{Connect}
use Rattle.packets.specs.Bodies.{piece_at, pieces_of}
use Rattle.packets.specs.Header.{length_at, type_of, flags_of, body_from, body_in, header_refusal, ToldHeader}
use Rattle.packets.specs.Piece.{is_long, ToldPiece}
use Rattle.packets.specs.Refusal.{refusal_number}
use Rattle.packets.specs.declared.messages.PacketMessage.{PacketMessage}
use Rattle.packets.specs.declared.refusal.PacketRefusal.{PacketRefusal}

-- a message of a packet: 0, or the number that says why there is none; the message as the monitor takes it; the places of its topic and of the inspected part of its payload in the bytes; and the
-- step of the next one
pub record ToldMessage : Type 0 where
  pub number : ℕ
  pub msg : MqttMessage
  pub topic_from : ℕ
  pub topic_to : ℕ
  pub payload_from : ℕ
  pub payload_to : ℕ
  pub next : ℕ

-- how many bytes of payload a piece of a body of so many bytes has
abbrev pub payload_size : ℕ → ToldPiece → ℕ
payload_size long p = long - p.rest

-- a piece as the monitor takes it. Its size is the payload's, 65,535 where that is longer; the inspected part is the first 256 bytes
abbrev pub message_of : ℕ → ℕ → ℕ → Bool → ToldPiece → MqttMessage
message_of kind size now_us ok p =
    record {
      packet_type = type_at kind;
      topic_len = p.to - p.from;
      qos = qos_at p.qos;
      payload_len = min size 65535;
      payload_inspectable_len = min size 256;
      timestamp_us = now_us;
      timestamp_ok = ok;
    }

-- the message of a piece of a body of so many bytes that begins at `base`, and the step behind it
abbrev pub sent_from : ℕ → ℕ → ℕ → ℕ → Bool → ToldPiece → ToldMessage
sent_from kind long base now_us ok p =
    record {
      number = 0;
      msg = message_of kind (payload_size long p) now_us ok p;
      topic_from = base + p.from;
      topic_to = base + p.to;
      payload_from = base + p.rest;
      payload_to = base + p.rest + min (payload_size long p) 256;
      next = p.next;
    }

-- no message
abbrev pub no_message : ℕ → ToldMessage
no_message number =
    record {
      number = number;
      msg =
          record {
            packet_type = Connect;
            topic_len = 0;
            qos = AtMostOnce;
            payload_len = 0;
            payload_inspectable_len = 0;
            timestamp_us = 0;
            timestamp_ok = true;
          };
      topic_from = 0;
      topic_to = 0;
      payload_from = 0;
      payload_to = 0;
      next = 0;
    }

-- what the code hands out, so told
abbrev pub message_told : Result PacketMessage PacketRefusal → ToldMessage
message_told (Ok m) =
    record {
      number = 0;
      msg = m.msg;
      topic_from = m.topic_from;
      topic_to = m.topic_to;
      payload_from = m.payload_from;
      payload_to = m.payload_to;
      next = m.next;
    }
message_told (Err e) = no_message (refusal_number e)

-- the messages of the packet that some bytes, which stand at a place, begin with
unfoldable pub messages_of : List ℕ → ℕ → ℕ → Bool → List ToldMessage
messages_of s place now_us ok =
    map (sent_from (type_of s) (length_at s 1).value (place + body_from s) now_us ok) (pieces_of (type_of s) (flags_of s) (body_in s))

abbrev pub messages_at : List ℕ → ℕ → ℕ → Bool → List ToldMessage
messages_at s place now_us ok = messages_of (drop place s) place now_us ok

-- 32 for a piece that could not be read, 33 for a long one
abbrev pub piece_refusal : ToldPiece → ℕ
piece_refusal p = cond p.fine (cond (is_long p) 33 0) 32

-- the message at a step. That the packet is not refused is not tested again: where it is not, and the step is one of its own, this is one of its messages (Steps.antt); else it is some message that
-- lies within the packet, or none
unfoldable pub message_from : List ℕ → ℕ → ℕ → Bool → ToldPiece → ToldMessage
message_from s place now_us ok p =
    cond (eqb (piece_refusal p) 0) (sent_from (type_of s) (length_at s 1).value (place + body_from s) now_us ok p) (no_message (piece_refusal p))

unfoldable pub message_for : List ℕ → ℕ → ℕ → ℕ → Bool → ToldMessage
message_for s place step now_us ok =
    cond (eqb (header_refusal s) 0)
    (message_from s place now_us ok (piece_at (type_of s) (flags_of s) (body_in s) step))
    (no_message (header_refusal s))

abbrev pub message_at : List ℕ → ℕ → ℕ → ℕ → Bool → ToldMessage
message_at s place step now_us ok = message_for (drop place s) place step now_us ok

-- what may be made a message: a piece of the packet at a place that lies in its body, with a topic that is not long, where the places fit 64 bits
pub record Placed (h : ToldHeader) (place : ℕ) (p : ToldPiece) : Type 0 where
  pub ends : place + h.to ≤ 18446744073709551615
  pub body : h.from ≤ h.to
  pub topic : p.from ≤ p.to
  pub short : p.to - p.from ≤ 128
  pub inside : h.from + p.to ≤ h.to
  pub payload : h.from + p.rest ≤ h.to
