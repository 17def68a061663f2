-- MQTT 3.1.1, sections 3.8 and 3.10: the bodies of a SUBSCRIBE and of an UNSUBSCRIBE: a packet identifier, then filters up to the body's end. The walk takes any reader of a
-- filter: request C-22 has its own.
-- Assumes nothing.
use Rattle.std.specs.Prelude.{Bool, true, cond, ◌&&◌, List, [], ◌∷◌, ◌≡◌, ℕ, zero, suc, ◌+◌, ◌≤◌, eqb, ltb, leb, length}
use Rattle.packets.specs.Fields.{begin, number_field, data_field, byte_if, ToldField}
use Rattle.packets.specs.Piece.{no_piece, piece_of, PieceIn, ToldPiece}
use Rattle.packets.specs.Publish.{identified}

-- [MQTT-3.8.1-1], [MQTT-3.10.1-1] the flags of the fixed header are 0010
-- [MQTT-2.3.1-1] the packet identifier is not 0
-- [MQTT-3.8.3-3], [MQTT-3.10.3-2] there is a filter
unfoldable pub list_built : ℕ → List ℕ → Bool
list_built flags b =
    eqb flags 2
    && identified true (number_field b (begin 0))
    && ltb 2 (length b)

-- [MQTT-3-8.3-4] a filter's last field was read, and a requested QoS is 0, 1 or 2, with no reserved bit set; where none is asked for, the field is the filter itself, whose number is 0
unfoldable pub request_fine : ToldField → Bool
request_fine q = q.fine && ltb q.value 3

-- a filter, from its own field and the last one
unfoldable pub filter_from : List ℕ → ToldField → ToldField → ToldPiece
filter_from b f q = cond (request_fine q) (piece_of q.value f.from f.next (length b) q.next) no_piece

-- 3.8.3, 3.10.3: the filter at a place; in a SUBSCRIBE the QoS that it asks for follows
unfoldable pub filter_at : Bool → List ℕ → ℕ → ToldPiece
filter_at subscribe b at = filter_from b (data_field b (begin at)) (byte_if subscribe b (data_field b (begin at)))

-- a piece, and behind it the others; behind one that could not be read there are none
abbrev pub piece_then : ToldPiece → List ToldPiece → List ToldPiece
piece_then p ps = p ∷ cond p.fine ps []

-- pieces one behind the other, from a place up to the end of the body; the first number is how many there may be, and any that is above the number of bytes left will do
unfoldable pub walk : (ℕ → ToldPiece) → ℕ → ℕ → ℕ → List ToldPiece
walk read zero end at = []
walk read (suc k) end at = cond (leb end at) [] (piece_then (read at) (walk read k end (read at).next))

-- [MQTT-3.8.4-4], [MQTT-3.10.4-6] the filters of a body, in their order, from behind the packet identifier
abbrev pub filters_of : Bool → List ℕ → List ToldPiece
filters_of subscribe b = walk (filter_at subscribe b) (length b + 1) (length b) 2

-- a filter lies in its body, and one that was read takes two bytes at least
pub record FilterIn (b : List ℕ) (at : ℕ) (p : ToldPiece) : Type 0 where
  pub lies : PieceIn b p
  pub further : p.fine ≡ true → at + 2 ≤ p.next
