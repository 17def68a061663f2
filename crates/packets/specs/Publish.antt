-- MQTT 3.1.1, section 3.3: the body of a PUBLISH, a check a line.
-- Assumes nothing.
use Rattle.std.specs.Prelude.{Bool, cond, not, ◌&&◌, ◌||◌, List, ℕ, ◌/◌, ◌%◌, eqb, ltb, length}
use Rattle.packets.specs.Fields.{begin, data_field, number_if, ToldField}
use Rattle.packets.specs.Piece.{no_piece, piece_of, ToldPiece}

-- 3.3.1.2: the QoS, from the flags of the fixed header
abbrev pub qos_of : ℕ → ℕ
qos_of flags = flags / 2 % 4

-- a packet identifier follows the topic
abbrev pub has_id : ℕ → Bool
has_id flags = not (eqb (qos_of flags) 0)

-- [MQTT-3.3.1-4] QoS is not 3
-- [MQTT-3.3.1-2] DUP is 0 with QoS 0
unfoldable pub publish_flags : ℕ → Bool
publish_flags flags =
    not (eqb (qos_of flags) 3)
    && (has_id flags || eqb (flags / 8 % 2) 0)

-- [MQTT-3.3.2-1] the topic is the first field
abbrev pub topic_field : List ℕ → ToldField
topic_field b = data_field b (begin 0)

-- [MQTT-2.3.1-1], [MQTT-2.3.1-5] a packet identifier stands behind it above QoS 0, and only there
abbrev pub id_field : ℕ → List ℕ → ToldField
id_field flags b = number_if (has_id flags) b (topic_field b)

-- [MQTT-2.3.1-1] an identifier that must be there is not 0
unfoldable pub identified : Bool → ToldField → Bool
identified due f = f.fine && (not due || ltb 0 f.value)

unfoldable pub publish_built : ℕ → List ℕ → Bool
publish_built flags b =
    publish_flags flags
    && identified (has_id flags) (id_field flags b)

-- its one piece: the payload is what is left, and may be empty
unfoldable pub publish_piece : ℕ → List ℕ → ToldPiece
publish_piece flags b =
    cond (id_field flags b).fine (piece_of (qos_of flags) (topic_field b).from (topic_field b).next (id_field flags b).next (length b)) no_piece
