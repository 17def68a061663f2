-- What `message_at` hands out lies within its packet, and `inspect` takes it: a piece lies in the body, the body in the bytes, and the message says how long its parts are. Assumes nothing.
use mathlib.Core.Bool.{Bool}
use mathlib.Core.List.{List}
use mathlib.Core.Path.{◌≡◌, refl, ◌∙◌}
use Prim.Native.Nat.{ℕ, ◌+◌, ◌-◌, ◌≤◌, min}
use native.Mathlib.Omega.{arith}
use lib.Dec.{eqb}
use lib.ListN.{length, drop, length-drop}
use lib.Seq.{length-take-le}
use borrow.Author.Tests.{eqb-true, eqb-false, le-ltb, ltb-false}
use Rattle.laws.proofs.Cases.{choose}
use Rattle.lines.specs.Span.{part}
use Rattle.monitor.specs.Inspect.{inspect_refusal}
use Rattle.monitor.specs.Message.{used_topic, used_payload}
use Rattle.monitor.specs.State.{well_formed}
use Rattle.monitor.specs.declared.state.MqttMonitor.{MqttMonitor}
use Rattle.packets.specs.Bodies.{piece_at}
use Rattle.packets.specs.Header.{length_at, type_of, flags_of, body_from, size_of, body_in, header_refusal}
use Rattle.packets.specs.Messages.{sent_from, piece_refusal, message_from, message_for, message_at, ToldMessage}
use Rattle.packets.specs.Piece.{PieceIn, is_long, ToldPiece}
use Rattle.packets.specs.Taken.{topic_bytes, payload_bytes, Within, Taken}
use Rattle.packets.proofs.bodies.PieceLaws.{piece_in}
use Rattle.packets.proofs.packet.AcceptedLaws.{header_there}

-- a part of bytes that are there is as long as its places say
part_long : (s : List ℕ) (from to : ℕ) → from ≤ to → to ≤ length s → length (part s from to) ≡ to - from
part_long s from to h g = length-take-le (to - from) (drop from s) (omega (arith, length-drop from s))

-- a piece that is made a message was read, and is not long
piece_short : (p : ToldPiece) → piece_refusal p ≡ 0 → p.to - p.from ≤ 128
piece_short p =
    let P : ℕ → Type 0 = λ (n : ℕ). n ≡ 0 → p.to - p.from ≤ 128 in
    choose P p.fine (λ _. choose P (is_long p) (λ _ e. absurd (omega arith)) (λ l _. ltb-false _ _ l)) (λ _ e. absurd (omega arith))

module _ (s : List ℕ) (place now_us : ℕ) (ok : Bool) where
  abbrev bytes : List ℕ
  bytes = drop place s

  -- the message of a piece that lies in the body
  sent_within : (p : ToldPiece) → size_of bytes ≤ length bytes → PieceIn (body_in bytes) p → p.to - p.from ≤ 128
      → Within s place (sent_from (type_of bytes) (length_at bytes 1).value (place + body_from bytes) now_us ok p)
  sent_within p h i short =
      let base : ℕ = place + body_from bytes in
      let d = length-drop place s in
      let b : length (body_in bytes) ≡ (length_at bytes 1).value = part_long bytes (body_from bytes) (size_of bytes) (omega arith) h ∙ omega arith in
      let w : place + size_of bytes ≤ length s = omega arith in
      let to : p.to ≤ (length_at bytes 1).value = omega (arith, i.inside, b) in
      let rest : p.rest ≤ (length_at bytes 1).value = omega (arith, i.payload, b) in
      record {
        whole = w;
        topic = (omega arith, omega (arith, i.ordered), omega (arith, to));
        payload = (omega arith, omega arith, omega (arith, rest));
        topic_long = (part_long s (base + p.from) (base + p.to) (omega (arith, i.ordered)) (omega (arith, to, w)) ∙ omega arith, short);
        payload_long =
            (part_long s (base + p.rest) (base + p.rest + min ((length_at bytes 1).value - p.rest) 256) (omega arith) (omega (arith, rest, w)) ∙ omega arith, omega arith);
        size = omega arith;
      }

  within : (step : ℕ) → (message_at s place step now_us ok).number ≡ 0 → Within s place (message_at s place step now_us ok)
  unfolding message_for message_from
  within step =
      let P : ToldMessage → Type 0 = λ (m : ToldMessage). m.number ≡ 0 → Within s place m in
      let p = piece_at (type_of bytes) (flags_of bytes) (body_in bytes) step in
      choose P (eqb (header_refusal bytes) 0)
      (λ h.
      choose P (eqb (piece_refusal p) 0)
      (λ g _. sent_within p (header_there bytes (eqb-true _ _ h)).1 (piece_in (type_of bytes) (flags_of bytes) (body_in bytes) step) (piece_short p (eqb-true _ _ g)))
      (λ g e. absurd (eqb-false _ _ g e)))
      (λ h e. absurd (eqb-false _ _ h e))

  timed : (step : ℕ) → (message_at s place step now_us ok).number ≡ 0
      → ((message_at s place step now_us ok).msg.timestamp_us ≡ now_us) × ((message_at s place step now_us ok).msg.timestamp_ok ≡ ok)
  unfolding message_for message_from
  timed step =
      let P : ToldMessage → Type 0 = λ (m : ToldMessage). m.number ≡ 0 → (m.msg.timestamp_us ≡ now_us) × (m.msg.timestamp_ok ≡ ok) in
      let p = piece_at (type_of bytes) (flags_of bytes) (body_in bytes) step in
      choose P (eqb (header_refusal bytes) 0)
      (λ _. choose P (eqb (piece_refusal p) 0) (λ _ _. (refl, refl)) (λ g e. absurd (eqb-false _ _ g e)))
      (λ h e. absurd (eqb-false _ _ h e))

-- what says how long its parts are is not refused for it
not_9 : (s : List ℕ) (place : ℕ) (m : ToldMessage) → Within s place m → (monitor : MqttMonitor)
    → inspect_refusal monitor m.msg (topic_bytes s m) (payload_bytes s m) ≡ 9 → ⊥
unfolding inspect_refusal
not_9 s place m w monitor =
    let P : ℕ → Type 0 = λ (n : ℕ). n ≡ 9 → ⊥ in
    choose P (well_formed monitor)
    (λ _ e.
    let t = le-ltb (length (topic_bytes s m)) (used_topic m.msg) (omega (arith, w.topic_long.0)) in
    let p = le-ltb (length (payload_bytes s m)) (used_payload m.msg) (omega (arith, w.payload_long.0)) in
    absurd (omega (arith, rw (t, p) at e)))
    (λ _ e. omega arith)

pub taken : Taken
taken =
    record {
      within = λ s place step now_us ok e. within s place now_us ok step e;
      timed = λ s place step now_us ok e. timed s place now_us ok step e;
      inspected = λ s place step now_us ok e monitor. not_9 s place (message_at s place step now_us ok) (within s place now_us ok step e) monitor;
    }
