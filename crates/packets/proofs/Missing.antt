-- 31 exactly when bytes are missing: bytes that follow move no byte before them, so a header that is there, and a body that is, stay as they are. Assumes nothing.
use mathlib.Core.Bool.{Bool, true, false}
use mathlib.Core.List.{List, ◌++◌}
use mathlib.Core.Path.{◌≡◌, refl, sym, ◌∙◌, ap}
use Prim.Native.Nat.{ℕ, ◌+◌, ◌-◌, ◌≤◌, ◌<◌}
use native.Mathlib.Omega.{arith}
use lib.Dec.{ltb}
use lib.ListN.{length, take, drop, length-append, length-drop, get_or-append}
use lib.Seq.{take-append-le, drop-append-le}
use borrow.Author.Tests.{ltb-false}
use Rattle.laws.proofs.Cases.{by, by_le, choose}
use Rattle.lines.specs.Span.{part}
use Rattle.packets.specs.Header.{byte_at, length_at, type_of, flags_of, body_from, size_of, body_in, header_refusal, ToldLength}
use Rattle.packets.specs.Messages.{message_from, message_for, message_at}
use Rattle.packets.specs.Missing.{Missing}
use Rattle.packets.specs.Packet.{packet_refusal, packet_of, packet_at, ToldPacket}
use Rattle.packets.proofs.header.LengthLaws.{there, over_is, short_is, whole_is, length_small}
use Rattle.packets.proofs.packet.PacketLaws.{body_not_31, by_header, refused_by, header_first, packet_number, packet_none}

module _ (s t : List ℕ) where
  -- a byte that is there
  same_byte : (i : ℕ) → i < length s → byte_at (s ++ t) i ≡ byte_at s i
  same_byte i h = get_or-append s t 0 i h

  -- a length field that is there
  same_length : ((length_at s 1).over ≡ false → body_from s ≤ length s) → length_at (s ++ t) 1 ≡ length_at s 1
  unfolding length_at
  same_length =
      let P : ToldLength → Type 0 = λ (l : ToldLength). (l.over ≡ false → 1 + l.bytes ≤ length s) → length_at (s ++ t) 1 ≡ l in
      choose P (ltb (byte_at s 1) 128)
      (λ a c. let h : 2 ≤ length s = c refl in rw (same_byte 1 (omega arith), a))
      (λ a.
      let h1 : 1 < length s = there s 1 (ltb-false _ _ a) in
      choose P (ltb (byte_at s 2) 128)
      (λ b c. let h : 3 ≤ length s = c refl in rw (same_byte 1 h1, a, same_byte 2 (omega arith), b))
      (λ b.
      let h2 : 2 < length s = there s 2 (ltb-false _ _ b) in
      choose P (ltb (byte_at s 3) 128)
      (λ d c. let h : 4 ≤ length s = c refl in rw (same_byte 1 h1, a, same_byte 2 h2, b, same_byte 3 (omega arith), d))
      (λ d.
      let h3 : 3 < length s = there s 3 (ltb-false _ _ d) in
      choose P (ltb (byte_at s 4) 128)
      (λ e c. let h : 5 ≤ length s = c refl in rw (same_byte 1 h1, a, same_byte 2 h2, b, same_byte 3 h3, d, same_byte 4 (omega arith), e))
      (λ e _. rw (same_byte 1 h1, a, same_byte 2 h2, b, same_byte 3 h3, d, same_byte 4 (there s 4 (ltb-false _ _ e)), e)))))

  -- a body that is there
  pub same_part : (from to : ℕ) → from ≤ to → to ≤ length s → part (s ++ t) from to ≡ part s from to
  same_part from to h g =
      ap (λ (r : List ℕ). take (to - from) r) (drop-append-le from s t (omega arith))
      ∙ take-append-le (to - from) (drop from s) t (omega (arith, length-drop from s))

  module _ (u : packet_refusal s ≡ 31 → ⊥) where
    -- what is not 31 is there, or has a length field that is
    not_short : (length_at s 1).over ≡ false → size_of s ≤ length s
    not_short o = by_le (size_of s) (length s) (λ h. h) (λ h. absurd (u (header_first s (short_is s o h) (λ e. absurd (omega arith)))))

    length_stays : length_at (s ++ t) 1 ≡ length_at s 1
    length_stays = same_length (λ o. let h = not_short o in omega arith)

    module _ (o : (length_at s 1).over ≡ false) where
      first_stays : byte_at (s ++ t) 0 ≡ byte_at s 0
      first_stays = let h = not_short o in same_byte 0 (omega arith)

      body_stays : part (s ++ t) (body_from s) (size_of s) ≡ part s (body_from s) (size_of s)
      body_stays = same_part (body_from s) (size_of s) (omega arith) (not_short o)

      read_now : header_refusal s ≡ 0
      read_now = whole_is s o (not_short o)

      read_then : header_refusal (s ++ t) ≡ 0
      read_then =
          let h = not_short o in
          whole_is (s ++ t) (rw length_stays o) (rw length_stays (omega (arith, length-append s t)))

      packet_read : packet_of (s ++ t) ≡ packet_of s
      unfolding packet_of packet_refusal
      packet_read = rw (read_then, read_now, first_stays, length_stays, body_stays)

      message_read : (place step now_us : ℕ) (ok : Bool) → message_for (s ++ t) place step now_us ok ≡ message_for s place step now_us ok
      unfolding message_for message_from
      message_read place step now_us ok = rw (read_then, read_now, first_stays, length_stays, body_stays)

    module _ (o : (length_at s 1).over ≡ true) where
      over_then : header_refusal (s ++ t) ≡ 32
      over_then = over_is (s ++ t) (rw length_stays o)

      packet_over : packet_of (s ++ t) ≡ packet_of s
      packet_over =
          let z : ◌≡◌ {A = ℕ} 32 0 → ⊥ = λ e. absurd (omega arith) in
          sym (refused_by (s ++ t) (header_first (s ++ t) over_then z) z) ∙ refused_by s (header_first s (over_is s o) z) z

      message_over : (place step now_us : ℕ) (ok : Bool) → message_for (s ++ t) place step now_us ok ≡ message_for s place step now_us ok
      unfolding message_for
      message_over place step now_us ok = rw (over_then, over_is s o)

    packet_stays : packet_of (s ++ t) ≡ packet_of s
    packet_stays = by (length_at s 1).over packet_over packet_read

    message_stays : (place step now_us : ℕ) (ok : Bool) → message_for (s ++ t) place step now_us ok ≡ message_for s place step now_us ok
    message_stays place step now_us ok =
        by (length_at s 1).over (λ o. message_over o place step now_us ok) (λ o. message_read o place step now_us ok)

  module _ (o : (length_at s 1).over ≡ false) (h : body_from s ≤ length s) where
    length_then : length_at (s ++ t) 1 ≡ length_at s 1
    length_then = same_length (λ _. h)

    -- fewer bytes than the field says
    then_short : length s + length t < size_of s → packet_refusal (s ++ t) ≡ 31
    then_short l =
        header_first (s ++ t) (short_is (s ++ t) (rw length_then o) (rw length_then (omega (arith, length-append s t)))) (λ e. absurd (omega arith))

    -- or not
    then_whole : size_of s ≤ length s + length t → packet_refusal (s ++ t) ≡ 31 → ⊥
    then_whole l e =
        let r : header_refusal (s ++ t) ≡ 0 = whole_is (s ++ t) (rw length_then o) (rw length_then (omega (arith, length-append s t))) in
        body_not_31 (type_of (s ++ t)) (flags_of (s ++ t)) (body_in (s ++ t)) (sym (by_header (s ++ t) r) ∙ e)

-- the same at a place
module _ (s t : List ℕ) (place : ℕ) (u : (packet_at s place).number ≡ 31 → ⊥) where
  inside : place ≤ length s
  inside = by_le place (length s) (λ h. h) (λ h. absurd (u (ap (λ (p : ToldPacket). p.number) (sym (packet_none s {place = place} (omega arith))))))

  number : packet_refusal (drop place s) ≡ 31 → ⊥
  number e = u (packet_number (drop place s) ∙ e)

  settled : packet_at (s ++ t) place ≡ packet_at s place
  settled = rw (drop-append-le place s t inside) (packet_stays (drop place s) t number)

  kept : (step now_us : ℕ) (ok : Bool) → message_at (s ++ t) place step now_us ok ≡ message_at s place step now_us ok
  kept step now_us ok = rw (drop-append-le place s t inside) (message_stays (drop place s) t number place step now_us ok)

-- with so many bytes there, whatever the field says is there
enough : (s : List ℕ) → 268435460 ≤ length s → packet_refusal s ≡ 31 → ⊥
enough s h e =
    by (length_at s 1).over
    (λ o. let r = header_first s (over_is s o) (λ z. absurd (omega arith)) in absurd (omega (arith, r, e)))
    (λ o.
    let l = length_small s 1 in
    let r = whole_is s o (omega (arith, l.bytes, l.value)) in
    body_not_31 (type_of s) (flags_of s) (body_in s) (sym (by_header s r) ∙ e))

pub missing : Missing
missing =
    record {
      settled = settled;
      kept = λ s t place step now_us ok u. kept s t place u step now_us ok;
      cut = λ s o h. header_first s (short_is s o (omega arith)) (λ e. absurd (omega arith));
      awaited = λ s t o h. (λ e. by_le (size_of s) (length s + length t) (λ l. absurd (then_whole s t o h l e)) (λ l. l), then_short s t o h);
      enough = λ s place h e. enough (drop place s) (omega (arith, length-drop place s)) (sym (packet_number (drop place s)) ∙ e);
    }
