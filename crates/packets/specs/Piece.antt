-- What of a packet's body becomes one message: where its topic stands in the body, its QoS, where its payload begins, and where the next piece does. A CONNECT's client id and a filter are topics
-- here, as in request C-11. Whatever becomes a topic has the same two tests.
-- Assumes nothing.
use Rattle.std.specs.Prelude.{Bool, true, false, ◌&&◌, List, ℕ, ◌-◌, ◌≤◌, ltb, length, Option, Some, None}
use Rattle.lines.specs.Span.{part}
use Rattle.packets.specs.Fields.{is_string}
use Rattle.packets.specs.declared.piece.Piece.{Piece}

-- a piece: whether it was read; its QoS; its topic is at from..to, its payload begins at `rest`, and the next piece at `next`
pub record ToldPiece : Type 0 where
  pub fine : Bool
  pub qos : ℕ
  pub from : ℕ
  pub to : ℕ
  pub rest : ℕ
  pub next : ℕ

-- a piece that is not there
abbrev pub no_piece : ToldPiece
no_piece = record { fine = false; qos = 0; from = 0; to = 0; rest = 0; next = 0 }

-- a piece that was read
abbrev pub piece_of : ℕ → ℕ → ℕ → ℕ → ℕ → ToldPiece
piece_of qos from to rest next = record { fine = true; qos = qos; from = from; to = to; rest = rest; next = next }

-- what the code reads, so told
abbrev pub piece_told : Option Piece → ToldPiece
piece_told (Some p) = piece_of p.qos p.from p.to p.rest p.next
piece_told None = no_piece

-- a body that is one piece without a topic, a QoS or a payload
abbrev pub plain_piece : List ℕ → ToldPiece
plain_piece b = piece_of 0 0 0 (length b) (length b)

-- [MQTT-3.1.3-4], [MQTT-3.3.2-1], [MQTT-3.8.3-1], [MQTT-3.10.3-1] the piece was read, and what becomes its topic, a client id, a name or a filter, is a string
unfoldable pub good_piece : List ℕ → ToldPiece → Bool
good_piece b p = p.fine && is_string (part b p.from p.to)

-- its topic has over 128 bytes
abbrev pub is_long : ToldPiece → Bool
is_long p = ltb 128 (p.to - p.from)

-- a piece lies in its body
pub record PieceIn (b : List ℕ) (p : ToldPiece) : Type 0 where
  pub ordered : p.from ≤ p.to
  pub inside : p.to ≤ length b
  pub payload : p.rest ≤ length b
  pub after : p.next ≤ length b
