-- A message's seven lines as the code writes them and sums up their lengths: they are at most 843 bytes long, where the types of the message's fields hold (`MessageTyped`) and topic and payload are
-- not longer than they may be; and a sum of lengths each capped at the largest 64-bit number is the length of the text. Assumes nothing.
use Prim.Native.Nat.{ℕ, ◌+◌, ◌≤◌, ◌<◌, ◌^◌}
use mathlib.Core.Path.{◌≡◌, refl, sym, ap, ◌∙◌}
use mathlib.Core.List.{List, ◌++◌, append_assoc}
use native.Mathlib.Omega.{arith}
use lib.ListN.{length, length-append}
use Rattle.laws.specs.Lists.{every}
use Rattle.slices.specs.Bytes.{bytes}
use Rattle.lines.specs.Line.{hex_line, word_line, number_line, capped}
use Rattle.lines.specs.Word.{first_word, rest_words}
use Rattle.lines.specs.Wrote.{Wrote}
use Rattle.lines.proofs.lengths.LineLaws.{number_line-length, word_line-length, hex_line-length}
use Rattle.lines.proofs.put.DecimalLaws.{decimal_short, decimal_20}
use Rattle.lines.proofs.put.WroteLaws.{wrote_then}
use Rattle.forms.specs.Form.{hex_form, word_form, number_form, pair_form}
use Rattle.forms.proofs.LineBounds.{uncapped}
use Rattle.forms.proofs.ShortLaws.{word_long}
use Rattle.tables.specs.Numbers.{qos_number}
use Rattle.tables.proofs.rules.NumberLaws.{qos_back}
use Rattle.monitor.specs.Message.{type_number, type_at}
use Rattle.monitor.specs.declared.message.MqttMessage.{MqttMessage}
use Rattle.monitor.specs.declared.message.MqttPacketType.{MqttPacketType}
use Rattle.monitor.specs.declared.message.MqttPacketType.TheVariants.{Connect, ConnAck, Publish, PubAck, PubRec, PubRel, PubComp}
use Rattle.monitor.specs.declared.message.MqttPacketType.TheVariants.{Subscribe, SubAck, Unsubscribe, UnsubAck, PingReq, PingResp, Disconnect, Auth}
use Rattle.packets_text.specs.MessageText.{clock_number, message_lines, message_text}

-- the words of the clock
abbrev clocks : List ℕ
clocks = bytes "ok|bad"

-- the seven lines, one behind the other
abbrev lines_of : ℕ → ℕ → ℕ → ℕ → List ℕ → ℕ → List ℕ → List ℕ
lines_of t c k q n z p =
    number_line (bytes "at=") t ++ word_line (bytes "clock=") clocks c ++ number_line (bytes "type=") k ++ number_line (bytes "qos=") q ++ hex_line (bytes "topic=") n
    ++ number_line (bytes "size=") z ++ hex_line (bytes "payload=") p

lines_text : (t c k q : ℕ) (n : List ℕ) (z : ℕ) (p : List ℕ) → lines_of t c k q n z p ≡ message_lines.text (t, (c, (k, (q, (n, (z, p))))))
unfolding message_lines pair_form number_form word_form hex_form
lines_text t c k q n z p = simp append_assoc

pub message_wrote : (msg : MqttMessage) (n p : List ℕ) {c k q : ℕ} {d e f g h i j l : List ℕ} {at a1 a2 a3 a4 a5 a6 a7 : ℕ}
    → c ≡ clock_number msg.timestamp_ok → k ≡ type_number msg.packet_type → q ≡ qos_number msg.qos
    → Wrote d e at (number_line (bytes "at=") msg.timestamp_us) a1 → Wrote e f a1 (word_line (bytes "clock=") clocks c) a2
    → Wrote f g a2 (number_line (bytes "type=") k) a3 → Wrote g h a3 (number_line (bytes "qos=") q) a4 → Wrote h i a4 (hex_line (bytes "topic=") n) a5
    → Wrote i j a5 (number_line (bytes "size=") msg.payload_len) a6 → Wrote j l a6 (hex_line (bytes "payload=") p) a7 → Wrote d l at (message_text msg n p) a7
unfolding message_text
message_wrote msg n p ec ek eq p1 p2 p3 p4 p5 p6 p7 =
    rw (← lines_text msg.timestamp_us (clock_number msg.timestamp_ok) (type_number msg.packet_type) (qos_number msg.qos) n msg.payload_len p)
    (wrote_then (wrote_then (wrote_then (wrote_then (wrote_then (wrote_then p1 (rw ec at p2)) (rw ek at p3)) (rw eq at p4)) p5) p6) p7)

-- what the types of a message's fields hold
pub record MessageTyped (msg : MqttMessage) : Type 0 where
  pub time : msg.timestamp_us < 2 ^ 64
  pub size : msg.payload_len < 65536

-- a type's number names it, and is 1 to 15
pub type_back : (k : MqttPacketType) → (type_at (type_number k) ≡ k) × (1 ≤ type_number k) × (type_number k ≤ 15)
type_back Connect = (refl, omega arith, omega arith)
type_back ConnAck = (refl, omega arith, omega arith)
type_back Publish = (refl, omega arith, omega arith)
type_back PubAck = (refl, omega arith, omega arith)
type_back PubRec = (refl, omega arith, omega arith)
type_back PubRel = (refl, omega arith, omega arith)
type_back PubComp = (refl, omega arith, omega arith)
type_back Subscribe = (refl, omega arith, omega arith)
type_back SubAck = (refl, omega arith, omega arith)
type_back Unsubscribe = (refl, omega arith, omega arith)
type_back UnsubAck = (refl, omega arith, omega arith)
type_back PingReq = (refl, omega arith, omega arith)
type_back PingResp = (refl, omega arith, omega arith)
type_back Disconnect = (refl, omega arith, omega arith)
type_back Auth = (refl, omega arith, omega arith)

module _ (t c k q : ℕ) (n : List ℕ) (z : ℕ) (p : List ℕ) where
  text-length : length (message_lines.text (t, (c, (k, (q, (n, (z, p)))))))
      ≡ length (number_line (bytes "at=") t) + length (word_line (bytes "clock=") clocks c) + length (number_line (bytes "type=") k) + length (number_line (bytes "qos=") q)
      + length (hex_line (bytes "topic=") n) + length (number_line (bytes "size=") z) + length (hex_line (bytes "payload=") p)
  text-length = ap length (sym (lines_text t c k q n z p)) ∙ (simp length-append)

  pub lines_short : t < 2 ^ 64 → k ≤ 15 → q ≤ 2 → length n ≤ 128 → z < 65536 → length p ≤ 256 → length (message_lines.text (t, (c, (k, (q, (n, (z, p))))))) ≤ 843
  unfolding every first_word rest_words
  lines_short ht hk hq hn hz hp =
      omega (
        arith,
        text-length,
        number_line-length (bytes "at=") t,
        decimal_20 t ht,
        word_line-length (bytes "clock=") clocks c,
        word_long clocks 3 refl c,
        number_line-length (bytes "type=") k,
        decimal_short 1 k (omega (arith, hk)),
        number_line-length (bytes "qos=") q,
        decimal_short 0 q (omega (arith, hq)),
        hex_line-length (bytes "topic=") n,
        hn,
        number_line-length (bytes "size=") z,
        decimal_short 4 z (omega (arith, hz)),
        hex_line-length (bytes "payload=") p,
        hp,
      )

-- the sum of the code
pub message_sum : (msg : MqttMessage) (n p : List ℕ) {c k q a1 a2 a3 a4 a5 a6 a7 : ℕ} → MessageTyped msg → length n ≤ 128 → length p ≤ 256
    → c ≡ clock_number msg.timestamp_ok → k ≡ type_number msg.packet_type → q ≡ qos_number msg.qos
    → a1 ≡ capped (length (number_line (bytes "at=") msg.timestamp_us)) → a2 ≡ capped (length (word_line (bytes "clock=") clocks c))
    → a3 ≡ capped (length (number_line (bytes "type=") k)) → a4 ≡ capped (length (number_line (bytes "qos=") q)) → a5 ≡ capped (length (hex_line (bytes "topic=") n))
    → a6 ≡ capped (length (number_line (bytes "size=") msg.payload_len)) → a7 ≡ capped (length (hex_line (bytes "payload=") p))
    → (a1 + a2 + a3 + a4 + a5 + a6 + a7 ≡ length (message_text msg n p)) × (a1 + a2 + a3 + a4 + a5 + a6 + a7 ≤ 843)
unfolding message_text
message_sum msg n p typed hn hp ec ek eq e1 e2 e3 e4 e5 e6 e7 =
    let t : ℕ = msg.timestamp_us in
    let c : ℕ = clock_number msg.timestamp_ok in
    let k : ℕ = type_number msg.packet_type in
    let q : ℕ = qos_number msg.qos in
    let z : ℕ = msg.payload_len in
    let s = lines_short t c k q n z p typed.time (type_back msg.packet_type).2 (qos_back msg.qos).1 hn typed.size hp in
    let l = text-length t c k q n z p in
    let b1 = uncapped e1 (omega (arith, l, s)) in
    let b2 = uncapped (rw ec at e2) (omega (arith, l, s)) in
    let b3 = uncapped (rw ek at e3) (omega (arith, l, s)) in
    let b4 = uncapped (rw eq at e4) (omega (arith, l, s)) in
    let b5 = uncapped e5 (omega (arith, l, s)) in
    let b6 = uncapped e6 (omega (arith, l, s)) in
    let b7 = uncapped e7 (omega (arith, l, s)) in
    (omega (arith, l, s, b1, b2, b3, b4, b5, b6, b7), omega (arith, l, s, b1, b2, b3, b4, b5, b6, b7))
