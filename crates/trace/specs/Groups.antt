-- Document 01, "The trace": the lines of a trace in their fixed order, group by group; a rule's are in `rules_text`. Each line is one field of `lines`, which decides 26, 21 and the value's own
-- number; a group stops at its first refused line. `line` says which line of its group that is, the first being 0; of a group that was read it is the last.
-- Assumes nothing.
use Rattle.std.specs.Prelude.{true, cond, ◌≡◌, List, ℕ, ◌≤◌, eqb, length}
use Rattle.slices.specs.Bytes.{bytes}
use Rattle.lines.specs.Field.{number_field, word_field, hex_field, hex_kept}
use Rattle.lines.specs.ReadHex.{unhex}
use Rattle.lines.specs.Span.{part}
use Rattle.lines.specs.declared.read.Field.{Field}
use Rattle.tables.specs.Numbers.{action_at, qos_at}
use Rattle.tables.specs.declared.rules.MqttQoS.TheVariants.{AtMostOnce}
use Rattle.tables.specs.declared.rules.TopicAction.TheVariants.{Allow}
use Rattle.monitor.specs.Message.{type_at}
use Rattle.monitor.specs.declared.message.MqttMessage.{MqttMessage}
use Rattle.monitor.specs.declared.message.MqttPacketType.TheVariants.{Connect}
use Rattle.trace.specs.declared.groups.OpeningLines.{OpeningLines}
use Rattle.trace.specs.declared.groups.MessageLines.{MessageLines}

-- an opening that stopped: nothing of it counts but the number, the line and the place
abbrev pub opening_stopped : Field → ℕ → OpeningLines
opening_stopped f line = record { number = f.number; line = line; next = f.next; default_action = Allow; rules = 0 }

-- `default=allow|block`, `rules=` 0..32
unfoldable pub opening2 : Field → Field → OpeningLines
opening2 d r =
    cond (eqb r.number 0) (record { number = 0; line = 1; next = r.next; default_action = action_at d.value; rules = r.value }) (opening_stopped r 1)

unfoldable pub opening1 : List ℕ → Field → OpeningLines
opening1 s d = cond (eqb d.number 0) (opening2 d (number_field s d.next (bytes "rules=") 0 32)) (opening_stopped d 0)

-- the opening, lines 1 and 2
unfoldable pub opening_of : List ℕ → OpeningLines
opening_of s = opening1 s (word_field s 0 (bytes "default=") (bytes "allow|block"))

-- a message without anything
abbrev pub no_message : MqttMessage
no_message =
    record {
      packet_type = Connect;
      topic_len = 0;
      qos = AtMostOnce;
      payload_len = 0;
      payload_inspectable_len = 0;
      timestamp_us = 0;
      timestamp_ok = true;
    }

-- a message that stopped at a line
abbrev pub message_stopped : Field → ℕ → MessageLines
message_stopped f line =
    record {
      number = f.number;
      line = line;
      next = f.next;
      msg = no_message;
      topic_from = 0;
      topic_to = 0;
      payload_from = 0;
      payload_to = 0;
    }

-- a message's lines, each read where the one before it ended: `at=` 64-bit, `clock=ok|bad`, `type=` 1..15, `qos=` 0..2, `topic=` hex, `size=` 0..65535, `payload=` hex
abbrev pub at_line : List ℕ → ℕ → Field
at_line s at = number_field s at (bytes "at=") 0 18446744073709551615

abbrev pub clock_line : List ℕ → Field → Field
clock_line s t = word_field s t.next (bytes "clock=") (bytes "ok|bad")

abbrev pub type_line : List ℕ → Field → Field
type_line s c = number_field s c.next (bytes "type=") 1 15

abbrev pub qos_line : List ℕ → Field → Field
qos_line s k = number_field s k.next (bytes "qos=") 0 2

abbrev pub topic_line : List ℕ → Field → Field
topic_line s q = hex_field s q.next (bytes "topic=") 128

abbrev pub size_line : List ℕ → Field → Field
size_line s n = number_field s n.next (bytes "size=") 0 65535

abbrev pub payload_line : List ℕ → Field → Field
payload_line s z = hex_field s z.next (bytes "payload=") 256

-- a message from its lines; the claimed lengths are those of the hex
unfoldable pub message7 : Field → Field → Field → Field → Field → Field → Field → MessageLines
message7 t c k q n z p =
    cond (eqb p.number 0)
    (record {
      number = 0;
      line = 6;
      next = p.next;
      msg =
          record {
            packet_type = type_at k.value;
            topic_len = n.value;
            qos = qos_at q.value;
            payload_len = z.value;
            payload_inspectable_len = p.value;
            timestamp_us = t.value;
            timestamp_ok = eqb c.value 0;
          };
      topic_from = n.from;
      topic_to = n.to;
      payload_from = p.from;
      payload_to = p.to;
    })
    (message_stopped p 6)

unfoldable pub message6 : List ℕ → Field → Field → Field → Field → Field → Field → MessageLines
message6 s t c k q n z =
    cond (eqb z.number 0) (message7 t c k q n z (payload_line s z)) (message_stopped z 5)

unfoldable pub message5 : List ℕ → Field → Field → Field → Field → Field → MessageLines
message5 s t c k q n =
    cond (eqb n.number 0) (message6 s t c k q n (size_line s n)) (message_stopped n 4)

unfoldable pub message4 : List ℕ → Field → Field → Field → Field → MessageLines
message4 s t c k q =
    cond (eqb q.number 0) (message5 s t c k q (topic_line s q)) (message_stopped q 3)

unfoldable pub message3 : List ℕ → Field → Field → Field → MessageLines
message3 s t c k =
    cond (eqb k.number 0) (message4 s t c k (qos_line s k)) (message_stopped k 2)

unfoldable pub message2 : List ℕ → Field → Field → MessageLines
message2 s t c =
    cond (eqb c.number 0) (message3 s t c (type_line s c)) (message_stopped c 1)

unfoldable pub message1 : List ℕ → Field → MessageLines
message1 s t =
    cond (eqb t.number 0) (message2 s t (clock_line s t)) (message_stopped t 0)

-- the message at a place of the text
unfoldable pub message_at : List ℕ → ℕ → MessageLines
message_at s at = message1 s (at_line s at)

-- its topic and its payload
abbrev pub topic_in : List ℕ → MessageLines → List ℕ
topic_in s g = unhex (part s g.topic_from g.topic_to)

abbrev pub payload_in : List ℕ → MessageLines → List ℕ
payload_in s g = unhex (part s g.payload_from g.payload_to)

-- a buffer after a line and those that follow it: where the line is refused they are not read, and it is as it was
abbrev pub kept_after : Field → List ℕ → List ℕ → List ℕ
kept_after f kept d = cond (eqb f.number 0) kept d

-- the buffer of a message's topic after its lines up to `topic=` were read
unfoldable pub topic4 : List ℕ → Field → List ℕ → List ℕ
topic4 s q d = kept_after q (hex_kept s q.next (bytes "topic=") d) d

unfoldable pub topic3 : List ℕ → Field → List ℕ → List ℕ
topic3 s k d = kept_after k (topic4 s (qos_line s k) d) d

unfoldable pub topic2 : List ℕ → Field → List ℕ → List ℕ
topic2 s c d = kept_after c (topic3 s (type_line s c) d) d

unfoldable pub topic1 : List ℕ → Field → List ℕ → List ℕ
topic1 s t d = kept_after t (topic2 s (clock_line s t) d) d

unfoldable pub topic_kept : List ℕ → ℕ → List ℕ → List ℕ
topic_kept s at d = topic1 s (at_line s at) d

-- the buffer of its payload after its lines up to `payload=` were read
unfoldable pub payload6 : List ℕ → Field → List ℕ → List ℕ
payload6 s z d = kept_after z (hex_kept s z.next (bytes "payload=") d) d

unfoldable pub payload5 : List ℕ → Field → List ℕ → List ℕ
payload5 s n d = kept_after n (payload6 s (size_line s n) d) d

unfoldable pub payload4 : List ℕ → Field → List ℕ → List ℕ
payload4 s q d = kept_after q (payload5 s (topic_line s q) d) d

unfoldable pub payload3 : List ℕ → Field → List ℕ → List ℕ
payload3 s k d = kept_after k (payload4 s (qos_line s k) d) d

unfoldable pub payload2 : List ℕ → Field → List ℕ → List ℕ
payload2 s c d = kept_after c (payload3 s (type_line s c) d) d

unfoldable pub payload1 : List ℕ → Field → List ℕ → List ℕ
payload1 s t d = kept_after t (payload2 s (clock_line s t) d) d

unfoldable pub payload_kept : List ℕ → ℕ → List ℕ → List ℕ
payload_kept s at d = payload1 s (at_line s at) d

-- an opening lies in its text, a line's number refused it if any did, and it has at most 32 rules
pub record OpeningIn (s : List ℕ) (o : OpeningLines) : Type 0 where
  pub after : o.next ≤ length s
  pub line : o.line ≤ 1
  pub known : o.number ≤ 26
  pub count : o.rules ≤ 32

-- a message lies in its text, and so do its topic and its payload, which are as long as it says, at most 128 and 256 bytes
pub record MessageIn (s : List ℕ) (g : MessageLines) : Type 0 where
  pub after : g.next ≤ length s
  pub line : g.line ≤ 6
  pub known : g.number ≤ 26
  pub topic : (g.topic_from ≤ g.topic_to) × (g.topic_to ≤ length s)
  pub payload : (g.payload_from ≤ g.payload_to) × (g.payload_to ≤ length s)
  pub topic_long : (length (topic_in s g) ≡ g.msg.topic_len) × (g.msg.topic_len ≤ 128)
  pub payload_long : (length (payload_in s g) ≡ g.msg.payload_inspectable_len) × (g.msg.payload_inspectable_len ≤ 256)
