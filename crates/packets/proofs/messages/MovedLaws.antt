-- A packet's calls do not depend on what stands around its bytes: not on bytes that follow (`calls_before`), nor on bytes before them that are left out (`calls_behind`). For whoever takes a run of
-- packets in parts. Assumes nothing.
use mathlib.Core.Bool.{Bool}
use mathlib.Core.List.{List, [], ◌∷◌, ◌++◌, map}
use mathlib.Core.Path.{◌≡◌, refl, sym, ap, ap₂, ◌∙◌}
use Prim.Native.Nat.{ℕ, zero, suc, ◌+◌, ◌-◌, min}
use native.Mathlib.Numerals.{sub-one}
use native.Mathlib.Omega.{arith}
use lib.ListN.{drop}
use lib.Seq.{drop-drop}
use Rattle.lines.specs.Span.{part}
use Rattle.monitor.specs.Runs.{Call}
use Rattle.monitor.specs.declared.message.MqttMessage.{MqttMessage}
use Rattle.packets.specs.Bodies.{pieces_of}
use Rattle.packets.specs.Header.{length_at, type_of, flags_of, body_from, body_in}
use Rattle.packets.specs.Messages.{sent_from, message_at, messages_of, messages_at, ToldMessage}
use Rattle.packets.specs.Packet.{packet_at, ToldPacket}
use Rattle.packets.specs.Steps.{stepped}
use Rattle.packets.specs.Taken.{call_of, calls_at, Within}
use Rattle.packets.specs.Piece.{ToldPiece}
use Rattle.packets.proofs.Missing.{missing, same_part}
use Rattle.packets.proofs.messages.LeftLaws.{left, Good, good_both, good_now, first-left, first_good}

-- a call from its parts
call_of_lem : (msg : MqttMessage) {a b c d : List ℕ} → a ≡ b → c ≡ d → ◌≡◌ {A = Call} (record { msg = msg; topic = a; payload = c }) (record { msg = msg; topic = b; payload = d })
call_of_lem msg e f = rw (e, f)

-- with bytes behind them
module _ (s t : List ℕ) (place now_us : ℕ) (ok : Bool) (z : (packet_at s place).number ≡ 0) where
  not_31 : (packet_at s place).number ≡ 31 → ⊥
  not_31 e = omega (arith, z, e)

  pub packet_before : packet_at (s ++ t) place ≡ packet_at s place
  packet_before = missing.settled s t place not_31

  same_steps : (k step : ℕ) → stepped k (s ++ t) place step now_us ok ≡ stepped k s place step now_us ok
  unfolding stepped
  same_steps zero step = refl
  same_steps (suc k) step =
      rw (missing.kept s t place step now_us ok not_31)
      (ap (λ (ms : List ToldMessage). message_at s place step now_us ok ∷ ms) (same_steps k (message_at s place step now_us ok).next))

  same_messages : messages_at (s ++ t) place now_us ok ≡ messages_at s place now_us ok
  same_messages =
      let e = packet_before in
      let n : (packet_at (s ++ t) place).number ≡ 0 = ap (λ (p : ToldPacket). p.number) e ∙ z in
      sym (first-left (s ++ t) place now_us ok (sym e) z) ∙ same_steps (packet_at s place).messages (packet_at s place).first ∙ first-left s place now_us ok refl z

  same_call : (m : ToldMessage) → Within s place m → call_of (s ++ t) m ≡ call_of s m
  same_call m w =
      call_of_lem m.msg (same_part s t m.topic_from m.topic_to w.topic.1 (omega (arith, w.topic, w.whole)))
      (same_part s t m.payload_from m.payload_to w.payload.1 (omega (arith, w.payload, w.whole)))

  same_calls : (k step : ℕ) → Good s place now_us ok k step → map (call_of (s ++ t)) (left s place now_us ok k step) ≡ map (call_of s) (left s place now_us ok k step)
  unfolding stepped
  same_calls zero step g = refl
  same_calls (suc k) step g =
      let m = message_at s place step now_us ok in
      let h = good_both s place now_us ok {k = suc k} step (omega arith) refl g in
      rw (same_call m (good_now s place now_us ok {k = suc k} step (omega arith) refl g))
      (ap (λ (cs : List Call). call_of s m ∷ cs) (same_calls k m.next (rw sub-one at h.1)))

  pub calls_before : calls_at (s ++ t) place now_us ok ≡ calls_at s place now_us ok
  calls_before =
      let f = first-left s place now_us ok refl z in
      ap (map (call_of (s ++ t))) (same_messages ∙ sym f)
      ∙ same_calls (packet_at s place).messages (packet_at s place).first (first_good s place now_us ok refl z) ∙ ap (map (call_of s)) f

-- without the bytes before them
module _ (s : List ℕ) (front place : ℕ) where
  pub packet_behind : packet_at (drop front s) place ≡ packet_at s (front + place)
  packet_behind = rw (drop-drop place front s)

  part_behind : (from to : ℕ) → part (drop front s) from to ≡ part s (front + from) (front + to)
  part_behind from to = let e : to - from ≡ front + to - (front + from) = omega arith in rw (drop-drop from front s, e)

  module _ (now_us : ℕ) (ok : Bool) where
    -- one piece
    moved : (kind long base : ℕ) (p : ToldPiece)
        → call_of (drop front s) (sent_from kind long (place + base) now_us ok p) ≡ call_of s (sent_from kind long (front + place + base) now_us ok p)
    moved kind long base p =
        let msg = (sent_from kind long (place + base) now_us ok p).msg in
        let e : (k : ℕ) → front + (place + base + k) ≡ front + place + base + k = λ k. omega arith in
        let f : front + (place + base + p.rest + min (long - p.rest) 256) ≡ front + place + base + p.rest + min (long - p.rest) 256 = omega arith in
        call_of_lem msg (part_behind (place + base + p.from) (place + base + p.to) ∙ ap₂ (part s) (e p.from) (e p.to))
        (part_behind (place + base + p.rest) (place + base + p.rest + min (long - p.rest) 256) ∙ ap₂ (part s) (e p.rest) f)

    all_moved : (kind long base : ℕ) (ps : List ToldPiece)
        → map (call_of (drop front s)) (map (sent_from kind long (place + base) now_us ok) ps) ≡ map (call_of s) (map (sent_from kind long (front + place + base) now_us ok) ps)
    all_moved kind long base [] = refl
    all_moved kind long base (p ∷ ps) = ap₂ (λ (c : Call) (cs : List Call). c ∷ cs) (moved kind long base p) (all_moved kind long base ps)

    pub calls_behind : calls_at (drop front s) place now_us ok ≡ calls_at s (front + place) now_us ok
    unfolding messages_of
    calls_behind =
        let b : List ℕ = drop (front + place) s in
        rw (drop-drop place front s) (all_moved (type_of b) (length_at b 1).value (body_from b) (pieces_of (type_of b) (flags_of b) (body_in b)))
