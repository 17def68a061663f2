-- What is told of an answer is all of it: no two answers are told alike. Assumes nothing.
use mathlib.Core.Path.{◌≡◌, sym, ap}
use Rattle.std.specs.Prelude.{Result, Ok, Err}
use Rattle.packets.specs.Messages.{message_told, ToldMessage}
use Rattle.packets.specs.Packet.{packet_told, ToldPacket}
use Rattle.packets.specs.declared.messages.PacketMessage.{PacketMessage}
use Rattle.packets.specs.declared.packet.Packet.{Packet}
use Rattle.packets.specs.declared.refusal.PacketRefusal.{PacketRefusal}
use Rattle.packets.proofs.RefusalLaws.{refusal_some, refusal_same}

abbrev packet_back : ToldPacket → Packet
packet_back t = record { length = t.length; messages = t.messages; first = t.first }

pub packet_once : (r s : Result Packet PacketRefusal) → packet_told r ≡ packet_told s → r ≡ s
packet_once (Ok p) (Ok q) e = ap (λ (t : ToldPacket). Ok (packet_back t)) e
packet_once (Ok p) (Err b) e = absurd (refusal_some b (sym (ap (λ (t : ToldPacket). t.number) e)))
packet_once (Err a) (Ok q) e = absurd (refusal_some a (ap (λ (t : ToldPacket). t.number) e))
packet_once (Err a) (Err b) e = ap Err (refusal_same a b (ap (λ (t : ToldPacket). t.number) e))

abbrev message_back : ToldMessage → PacketMessage
message_back t =
    record {
      msg = t.msg;
      topic_from = t.topic_from;
      topic_to = t.topic_to;
      payload_from = t.payload_from;
      payload_to = t.payload_to;
      next = t.next;
    }

pub message_once : (r s : Result PacketMessage PacketRefusal) → message_told r ≡ message_told s → r ≡ s
message_once (Ok p) (Ok q) e = ap (λ (t : ToldMessage). Ok (message_back t)) e
message_once (Ok p) (Err b) e = absurd (refusal_some b (sym (ap (λ (t : ToldMessage). t.number) e)))
message_once (Err a) (Ok q) e = absurd (refusal_some a (ap (λ (t : ToldMessage). t.number) e))
message_once (Err a) (Err b) e = ap Err (refusal_same a b (ap (λ (t : ToldMessage). t.number) e))
