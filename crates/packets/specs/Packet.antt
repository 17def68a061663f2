-- Request C-11: what refuses the packet at a place of some bytes, and what a caller needs of one that is not refused. The numbers come in the request's order: 32 for a length field with a fourth
-- continuation bit, 31 where bytes are missing, 32 for any other breach, 33 for a topic, filter or client id over 128 bytes.
-- Assumes nothing.
use Rattle.std.specs.Prelude.{cond, ◌&&◌, List, ◌≡◌, ℕ, ◌+◌, ◌≤◌, eqb, length, drop, Result, Ok, Err}
use Rattle.laws.specs.Lists.{every, some}
use Rattle.packets.specs.Bodies.{body_built, pieces_of, first_step}
use Rattle.packets.specs.Header.{type_of, flags_of, body_in, size_of, header_refusal}
use Rattle.packets.specs.Piece.{good_piece, is_long}
use Rattle.packets.specs.Refusal.{refusal_number}
use Rattle.packets.specs.declared.packet.Packet.{Packet}
use Rattle.packets.specs.declared.refusal.PacketRefusal.{PacketRefusal}

-- the first of two numbers, or the second where the first refuses nothing
abbrev pub first_of : ℕ → ℕ → ℕ
first_of n m = cond (eqb n 0) m n

-- 32 for any breach in the body, all of which is looked at before 33
unfoldable pub body_refusal : ℕ → ℕ → List ℕ → ℕ
body_refusal kind flags b =
    cond (body_built kind flags b && every (good_piece b) (pieces_of kind flags b))
    (cond (some is_long (pieces_of kind flags b)) 33 0)
    32

-- the header's, then the body's
unfoldable pub packet_refusal : List ℕ → ℕ
packet_refusal s = first_of (header_refusal s) (body_refusal (type_of s) (flags_of s) (body_in s))

-- what a packet is: 0, 31, 32 or 33; its length from its first byte; how many messages it has, and the step of the first; a refused one has no length and no message
pub record ToldPacket : Type 0 where
  pub number : ℕ
  pub length : ℕ
  pub messages : ℕ
  pub first : ℕ

-- a packet that is refused
abbrev pub refused_packet : ℕ → ToldPacket
refused_packet number = record { number = number; length = 0; messages = 0; first = 0 }

-- what the code reads, so told
abbrev pub packet_told : Result Packet PacketRefusal → ToldPacket
packet_told (Ok p) = record { number = 0; length = p.length; messages = p.messages; first = p.first }
packet_told (Err e) = refused_packet (refusal_number e)

-- the packet that some bytes begin with: its whole length, its messages, and the step of the first
unfoldable pub packet_of : List ℕ → ToldPacket
packet_of s =
    cond (eqb (packet_refusal s) 0)
    (record { number = 0; length = size_of s; messages = length (pieces_of (type_of s) (flags_of s) (body_in s)); first = first_step (type_of s) })
    (refused_packet (packet_refusal s))

-- the packet at a place; there are no bytes behind the last one
abbrev pub packet_at : List ℕ → ℕ → ToldPacket
packet_at s place = packet_of (drop place s)

-- a packet that is not refused has a type and a length at least, and lies in the bytes
pub record PacketIn (s : List ℕ) (place : ℕ) (p : ToldPacket) : Type 0 where
  pub some : p.number ≡ 0 → 2 ≤ p.length
  pub inside : p.number ≡ 0 → place + p.length ≤ length s
