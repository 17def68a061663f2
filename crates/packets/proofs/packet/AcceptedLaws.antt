-- What a packet that is not refused is: a header that is there, a body that was found good, pieces that are good and short; and where it lies. Assumes nothing.
use mathlib.Core.Bool.{true, false, ◌&&◌}
use mathlib.Core.List.{List}
use mathlib.Core.Path.{◌≡◌, refl, sym, ◌∙◌}
use Prim.Native.Nat.{ℕ, ◌+◌, ◌≤◌}
use native.Mathlib.Omega.{arith}
use lib.Dec.{eqb, ltb}
use lib.ListN.{length, drop, length-drop}
use borrow.Author.Tests.{eqb-true, eqb-false}
use Rattle.laws.specs.Lists.{every, some}
use Rattle.laws.proofs.Cases.{by, by_le, choose, clash}
use Rattle.laws.proofs.Tests.{both}
use Rattle.packets.specs.Bodies.{body_built, pieces_of, first_step}
use Rattle.packets.specs.Header.{byte_at, length_at, type_of, flags_of, size_of, body_in, header_refusal, ToldLength}
use Rattle.packets.specs.Packet.{body_refusal, packet_refusal, packet_of, packet_at, PacketIn, ToldPacket}
use Rattle.packets.specs.Piece.{good_piece, is_long, ToldPiece}
use Rattle.packets.proofs.header.LengthLaws.{over_is, short_is}
use Rattle.packets.proofs.packet.PacketLaws.{by_header, packet_number, header_first}

-- what a packet that is not refused is
pub record Accepted (s : List ℕ) : Type 0 where
  pub header : header_refusal s ≡ 0
  pub built : body_built (type_of s) (flags_of s) (body_in s) ≡ true
  pub good : every (good_piece (body_in s)) (pieces_of (type_of s) (flags_of s) (body_in s)) ≡ true
  pub short : some is_long (pieces_of (type_of s) (flags_of s) (body_in s)) ≡ false

-- a body that is not refused
body_accepted : (kind flags : ℕ) (b : List ℕ) → body_refusal kind flags b ≡ 0
    → (body_built kind flags b ≡ true) × (every (good_piece b) (pieces_of kind flags b) ≡ true) × (some is_long (pieces_of kind flags b) ≡ false)
unfolding body_refusal
body_accepted kind flags b =
    let ps : List ToldPiece = pieces_of kind flags b in
    let P : ℕ → Type 0 = λ (n : ℕ). n ≡ 0 → (body_built kind flags b ≡ true) × (every (good_piece b) ps ≡ true) × (some is_long ps ≡ false) in
    choose P (body_built kind flags b && every (good_piece b) ps)
    (λ g.
    let h = both (body_built kind flags b) (every (good_piece b) ps) g in
    choose P (some is_long ps) (λ _ e. absurd (omega arith)) (λ l _. (h.0, h.1, l)))
    (λ _ e. absurd (omega arith))

module _ (s : List ℕ) (e : (packet_of s).number ≡ 0) where
  pub accepted : Accepted s
  accepted =
      let r : packet_refusal s ≡ 0 = sym (packet_number s) ∙ e in
      let h : header_refusal s ≡ 0 =
      by (eqb (header_refusal s) 0) (eqb-true _ _) (λ f. absurd (eqb-false _ _ f (sym (header_first s refl (eqb-false _ _ f)) ∙ r))) in
      let b = body_accepted (type_of s) (flags_of s) (body_in s) (sym (by_header s h) ∙ r) in
      record { header = h; built = b.0; good = b.1; short = b.2 }

  -- its length
  pub length_is : (packet_of s).length ≡ size_of s
  unfolding packet_of
  length_is = let r : packet_refusal s ≡ 0 = sym (packet_number s) ∙ e in rw r refl

  -- how many messages, and the first step
  pub messages_are : ((packet_of s).messages ≡ length (pieces_of (type_of s) (flags_of s) (body_in s))) × ((packet_of s).first ≡ first_step (type_of s))
  unfolding packet_of
  messages_are = let r : packet_refusal s ≡ 0 = sym (packet_number s) ∙ e in rw r (refl, refl)

-- a header that is not refused says what is there
pub header_there : (s : List ℕ) → header_refusal s ≡ 0 → ((length_at s 1).over ≡ false) × (size_of s ≤ length s)
header_there s e =
    by (length_at s 1).over (λ o. absurd (omega (arith, over_is s o, e)))
    (λ o. (o, by_le (size_of s) (length s) (λ h. h) (λ h. absurd (omega (arith, short_is s o h, e)))))

-- a length field that ends has a byte
pub length_some : (s : List ℕ) (at : ℕ) → (length_at s at).over ≡ false → 1 ≤ (length_at s at).bytes
unfolding length_at
length_some s at =
    let P : ToldLength → Type 0 = λ (l : ToldLength). l.over ≡ false → 1 ≤ l.bytes in
    choose P (ltb (byte_at s at) 128) (λ _ _. omega arith)
    (λ _. choose P (ltb (byte_at s (at + 1)) 128) (λ _ _. omega arith)
    (λ _. choose P (ltb (byte_at s (at + 2)) 128) (λ _ _. omega arith)
    (λ _. choose P (ltb (byte_at s (at + 3)) 128) (λ _ _. omega arith)
    (λ _ e. clash refl e))))

-- where a packet lies
pub packet_is : (s : List ℕ) (place : ℕ) {p : ToldPacket} → p ≡ packet_at s place → (p ≡ packet_at s place) × PacketIn s place p
packet_is s place {p} e =
    let t : List ℕ = drop place s in
    let size : (packet_of t).number ≡ 0 → ((packet_of t).length ≡ size_of t) × (2 ≤ size_of t) × (place + size_of t ≤ length s) = λ z.
    let h = header_there t (accepted t z).header in
    let b = length_some t 1 h.0 in
    (length_is t z, omega arith, omega (arith, h.1, length-drop place s)) in
    (e, rw e (record { some = λ z. omega (arith, (size z).0, (size z).1); inside = λ z. omega (arith, (size z).0, (size z).2) }))
