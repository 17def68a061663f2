-- The trace's reader reads back what is written: line by line, each field of it reads what its writer wrote; and so message by message. Assumes nothing.
use mathlib.Core.Bool.{Bool, true, false}
use mathlib.Core.List.{List, ◌++◌, map}
use mathlib.Core.Path.{◌≡◌, refl, ◌∙◌}
use Prim.Native.Nat.{ℕ, zero, suc, ◌+◌, ◌-◌, ◌*◌, ◌≤◌, ◌<◌}
use native.Mathlib.Numerals.{sub-one}
use native.Mathlib.Omega.{arith}
use lib.Dec.{eqb}
use lib.ListN.{length, drop, length-take, get_or-eq_default}
use lib.Seq.{get_or-take, get_or-drop}
use borrow.Author.Tests.{eqb-true}
use Rattle.laws.proofs.Cases.{by_le}
use Rattle.laws.specs.Lists.{every}
use Rattle.slices.specs.Bytes.{bytes, same}
use Rattle.lines.specs.Hex.{hex_text}
use Rattle.lines.specs.Line.{number_line, word_line, hex_line}
use Rattle.lines.specs.ReadWord.{word_index, different}
use Rattle.lines.specs.Span.{part}
use Rattle.lines.specs.Word.{first_word, rest_words}
use Rattle.forms.specs.Form.{number_form, word_form, hex_form, pair_form}
use Rattle.forms.specs.Stands.{Stands}
use Rattle.forms.proofs.FieldRound.{number_there, word_there, hex_there, hex_bytes}
use Rattle.forms.proofs.StandsLaws.{stands_first, stands_second}
use Rattle.tables.specs.Numbers.{qos_number, qos_at}
use Rattle.tables.specs.declared.rules.MqttQoS.{MqttQoS}
use Rattle.tables.proofs.rules.NumberLaws.{qos_back}
use Rattle.monitor.specs.Message.{type_number, type_at}
use Rattle.monitor.specs.declared.message.MqttMessage.{MqttMessage}
use Rattle.monitor.specs.declared.message.MqttPacketType.{MqttPacketType}
use Rattle.trace.specs.Groups.{message1, message2, message3, message4, message5, message6, message7, message_at}
use Rattle.trace.specs.declared.groups.MessageLines.{MessageLines}
use Rattle.trace.proofs.groups.GroupLaws.{message_within, message_further}
use Rattle.trace.proofs.run.RunLaws.{left_turn}
use Rattle.packets.specs.Messages as packet
use Rattle.packets.specs.Packet.{packet_at}
use Rattle.packets.specs.Steps.{stepped}
use Rattle.packets.specs.Taken.{topic_bytes, payload_bytes, call_of}
use Rattle.packets.specs.Messages.{ToldMessage}
use Rattle.packets.proofs.Steps.{steps}
use Rattle.packets.proofs.Taken.{taken}
use Rattle.packets.proofs.messages.LeftLaws.{left, Good, good_both, first_good}
use Rattle.packets_text.specs.MessageText.{clock_number, message_lines, message_text}
use Rattle.packets_text.specs.PacketText.{text_of, texts_of}
use Rattle.packets_text.specs.ReadBack.{IsBytes, Writable, Reads, sent_all, read_from, ReadBack}
use Rattle.packets_text.proofs.message.TextLaws.{type_back, lines_short}
use Rattle.packets_text.proofs.written.WrittenLaws.{first_text}

-- a place in `ok|bad` names the verdict
clock_back : (ok : Bool) → (eqb (clock_number ok) 0 ≡ ok) × (clock_number ok < 2)
clock_back true = (refl, omega arith)
clock_back false = (refl, omega arith)

-- a message from its parts
message_of : {k l : MqttPacketType} {n m : ℕ} {q u : MqttQoS} {i j : ℕ} {o v : Bool} (z t : ℕ) → k ≡ l → n ≡ m → q ≡ u → i ≡ j → o ≡ v
    → ◌≡◌ {A = MqttMessage}
    (record { packet_type = k; topic_len = n; qos = q; payload_len = z; payload_inspectable_len = i; timestamp_us = t; timestamp_ok = o })
    (record { packet_type = l; topic_len = m; qos = u; payload_len = z; payload_inspectable_len = j; timestamp_us = t; timestamp_ok = v })
message_of z t a b c d e = cc

module _ {s : List ℕ} {at r : ℕ} (msg : MqttMessage) (topic payload : List ℕ) (w : Writable msg topic payload) (a : Stands s at (message_text msg topic payload) r) where
  abbrev T : List ℕ
  T = number_line (bytes "at=") msg.timestamp_us

  abbrev C : List ℕ
  C = word_line (bytes "clock=") (bytes "ok|bad") (clock_number msg.timestamp_ok)

  abbrev K : List ℕ
  K = number_line (bytes "type=") (type_number msg.packet_type)

  abbrev Q : List ℕ
  Q = number_line (bytes "qos=") (qos_number msg.qos)

  abbrev N : List ℕ
  N = hex_line (bytes "topic=") topic

  abbrev Z : List ℕ
  Z = number_line (bytes "size=") msg.payload_len

  abbrev P : List ℕ
  P = hex_line (bytes "payload=") payload

  all : Stands s at (T ++ (C ++ (K ++ (Q ++ (N ++ (Z ++ P)))))) r
  unfolding message_text message_lines pair_form number_form word_form hex_form
  all = a

  -- where each line stands
  abbrev at1 : ℕ
  at1 = at + length T

  abbrev at2 : ℕ
  at2 = at1 + length C

  abbrev at3 : ℕ
  at3 = at2 + length K

  abbrev at4 : ℕ
  at4 = at3 + length Q

  abbrev at5 : ℕ
  at5 = at4 + length N

  abbrev at6 : ℕ
  at6 = at5 + length Z

  behind1 : Stands s at1 (C ++ (K ++ (Q ++ (N ++ (Z ++ P))))) r
  behind1 = stands_second T (C ++ (K ++ (Q ++ (N ++ (Z ++ P))))) all

  behind2 : Stands s at2 (K ++ (Q ++ (N ++ (Z ++ P)))) r
  behind2 = stands_second C (K ++ (Q ++ (N ++ (Z ++ P)))) behind1

  behind3 : Stands s at3 (Q ++ (N ++ (Z ++ P))) r
  behind3 = stands_second K (Q ++ (N ++ (Z ++ P))) behind2

  behind4 : Stands s at4 (N ++ (Z ++ P)) r
  behind4 = stands_second Q (N ++ (Z ++ P)) behind3

  behind5 : Stands s at5 (Z ++ P) r
  behind5 = stands_second N (Z ++ P) behind4

  behind6 : Stands s at6 P r
  behind6 = stands_second Z P behind5

  -- what is read there
  abbrev lines : MessageLines
  lines =
      record {
        number = 0;
        line = 6;
        next = r;
        msg =
            record {
              packet_type = type_at (type_number msg.packet_type);
              topic_len = length topic;
              qos = qos_at (qos_number msg.qos);
              payload_len = msg.payload_len;
              payload_inspectable_len = length payload;
              timestamp_us = msg.timestamp_us;
              timestamp_ok = eqb (clock_number msg.timestamp_ok) 0;
            };
        topic_from = at4 + length (bytes "topic=");
        topic_to = at4 + length (bytes "topic=" ++ hex_text topic);
        payload_from = at6 + length (bytes "payload=");
        payload_to = at6 + length (bytes "payload=" ++ hex_text payload);
      }

  topic_short : length topic ≤ 128
  topic_short = omega (arith, w.topic_long.0, w.topic_long.1)

  payload_short : length payload ≤ 256
  payload_short = omega (arith, w.payload_long.0, w.payload_long.1)

  abbrev topic_there : Stands s at4 N (at4 + length N)
  topic_there = stands_first N (Z ++ P) behind4

  read : message_at s at ≡ lines
  unfolding message_at message1 message2 message3 message4 message5 message6 message7 every first_word rest_words different word_index same
  read =
      let e1 = number_there (bytes "at=") 0 18446744073709551615 refl msg.timestamp_us (omega arith) w.time (stands_first T (C ++ (K ++ (Q ++ (N ++ (Z ++ P))))) all) in
      let e2 =
      word_there (bytes "clock=") (bytes "ok|bad") refl refl refl (clock_number msg.timestamp_ok) (clock_back msg.timestamp_ok).1
      (stands_first C (K ++ (Q ++ (N ++ (Z ++ P)))) behind1) in
      let e3 =
      number_there (bytes "type=") 1 15 refl (type_number msg.packet_type) (type_back msg.packet_type).1 (type_back msg.packet_type).2
      (stands_first K (Q ++ (N ++ (Z ++ P))) behind2) in
      let e4 = number_there (bytes "qos=") 0 2 refl (qos_number msg.qos) (omega arith) (qos_back msg.qos).1 (stands_first Q (N ++ (Z ++ P)) behind3) in
      let e5 = hex_there (bytes "topic=") 128 refl topic w.topic_bytes topic_short topic_there in
      let e6 = number_there (bytes "size=") 0 65535 refl msg.payload_len (omega arith) w.size (stands_first Z P behind5) in
      let e7 = hex_there (bytes "payload=") 256 refl payload w.payload_bytes payload_short behind6 in
      rw (e1, e2, e3, e4, e5, e6, e7)

  reads : Reads s at r msg topic payload
  unfolding every
  reads =
      let e5 = hex_there (bytes "topic=") 128 refl topic w.topic_bytes topic_short topic_there in
      let e7 = hex_there (bytes "payload=") 256 refl payload w.payload_bytes payload_short behind6 in
      record {
        number = rw read refl;
        next = rw read refl;
        msg =
            rw read
            (message_of msg.payload_len msg.timestamp_us (type_back msg.packet_type).0 w.topic_long.0 (qos_back msg.qos).0 w.payload_long.0
            (clock_back msg.timestamp_ok).0);
        topic = rw read (rw e5 at (hex_bytes (bytes "topic=") 128 refl topic w.topic_bytes topic_short topic_there));
        payload = rw read (rw e7 at (hex_bytes (bytes "payload=") 256 refl payload w.payload_bytes payload_short behind6));
      }

-- the lines are not longer
text_short : (msg : MqttMessage) (topic payload : List ℕ) → Writable msg topic payload → length (message_text msg topic payload) ≤ 843
unfolding message_text
text_short msg topic payload w =
    lines_short msg.timestamp_us (clock_number msg.timestamp_ok) (type_number msg.packet_type) (qos_number msg.qos) topic msg.payload_len payload
    (omega (arith, w.time)) (type_back msg.packet_type).2 (qos_back msg.qos).1 (omega (arith, w.topic_long.0, w.topic_long.1)) (omega (arith, w.size))
    (omega (arith, w.payload_long.0, w.payload_long.1))

-- a part of bytes is bytes
part_bytes : (s : List ℕ) (from to : ℕ) → IsBytes s → IsBytes (part s from to)
part_bytes s from to b i =
    by_le (to - from) i (λ h. let z = get_or-eq_default (part s from to) 0 {n = i} (omega (arith, h, length-take (to - from) (drop from s))) in omega (arith, z))
    (λ h. rw (get_or-take (to - from) (drop from s) i 0 h, get_or-drop from s i 0) (b (from + i)))

module _ (buffer : List ℕ) (place now_us : ℕ) (ok : Bool) (b : IsBytes buffer) (n : now_us ≤ 18446744073709551615) where
  -- a message that was handed out can be written
  writable : (step : ℕ) {m : ToldMessage} → m ≡ packet.message_at buffer place step now_us ok → m.number ≡ 0 → Writable m.msg (topic_bytes buffer m) (payload_bytes buffer m)
  writable step {m} e z =
      let w = taken.within buffer place step now_us ok (rw e at z) in
      let t = taken.timed buffer place step now_us ok (rw e at z) in
      let h = packet.message_at buffer place step now_us ok in
      rw e
      (record {
        time = omega (arith, t.0, n);
        size = w.size;
        topic_long = w.topic_long;
        payload_long = w.payload_long;
        topic_bytes = part_bytes buffer h.topic_from h.topic_to b;
        payload_bytes = part_bytes buffer h.payload_from h.payload_to b;
      })

  -- so many messages from a step on are read, and then what follows
  all_read : (k step : ℕ) → Good buffer place now_us ok k step → (s : List ℕ) (at r line : ℕ) → Stands s at (texts_of buffer (left buffer place now_us ok k step)) r
      → read_from s at line ≡ sent_all (map (call_of buffer) (left buffer place now_us ok k step)) (read_from s r (line + k * 7))
  unfolding stepped texts_of sent_all
  all_read zero step g s at r line a =
      let e : r ≡ at = omega (arith, a.next) in
      let l : line + 0 * 7 ≡ line = omega arith in
      rw (e, l)
  all_read (suc k) step g s at r line a =
      let m = packet.message_at buffer place step now_us ok in
      let t = text_of buffer m in
      let u = texts_of buffer (left buffer place now_us ok k m.next) in
      let z = good_both buffer place now_us ok {k = suc k} step (omega arith) refl g in
      let x = reads m.msg (topic_bytes buffer m) (payload_bytes buffer m) (writable step refl (eqb-true _ _ z.0)) (stands_first t u a) in
      let h = all_read k m.next (rw sub-one at z.1) s (at + length t) r (line + 7) (stands_second t u a) in
      let i = message_within s at refl in
      let f = message_further s at x.number in
      let l : line + 7 + k * 7 ≡ line + suc k * 7 = omega arith in
      left_turn s at line (omega (arith, i.after, f)) x.number ∙ rw (x.msg, x.topic, x.payload, x.next, h, l)

pub read_back : ReadBack
read_back =
    record {
      message = λ {s} {at} {r} {msg} {topic} {payload} w a. reads msg topic payload w a;
      packet = λ buffer place now_us ok b n z s at r line a.
          let g = first_good buffer place now_us ok refl z in
          let t = first_text buffer place now_us ok refl z in
          let o = steps.in_order buffer place now_us ok z in
          rw (← o) (all_read buffer place now_us ok b n (packet_at buffer place).messages (packet_at buffer place).first g s at r line (rw t a));
      short = λ msg topic payload w. text_short msg topic payload w;
    }
