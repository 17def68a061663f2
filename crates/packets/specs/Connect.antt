-- MQTT 3.1.1, section 3.1: the body of a CONNECT, a check a line. Request C-22 has another level, and a password may stand alone there; the other checks are the same.
-- Assumes nothing.
use Rattle.std.specs.Prelude.{Bool, cond, not, ◌&&◌, ◌||◌, List, ◌∷◌, ℕ, ◌/◌, ◌%◌, eqb, ltb, leb, length, get_or}
use Rattle.slices.specs.Bytes.{bytes, begins}
use Rattle.packets.specs.Fields.{begin, data_field, data_if, string_if, ends_behind, ToldField}
use Rattle.packets.specs.Piece.{no_piece, piece_of, ToldPiece}

-- the bit of this weight is set
abbrev pub is_set : ℕ → ℕ → Bool
is_set weight n = eqb (n / weight % 2) 1

-- the variable header is ten bytes long: the protocol name with its length, the level, the connect flags, and two bytes of keep alive, of which any will do
-- [MQTT-3.1.2-1] the protocol name is `MQTT`
-- [MQTT-3.1.2-2] the level is the version's: 4 for MQTT 3.1.1
unfoldable pub connect_head : ℕ → List ℕ → Bool
connect_head level b =
    leb 10 (length b)
    && begins (0 ∷ 4 ∷ bytes "MQTT") b
    && eqb (get_or b 6 0) level

-- the connect flags
abbrev pub connect_flags : List ℕ → ℕ
connect_flags b = get_or b 7 0

-- [MQTT-3.1.2-3] the reserved flag is 0
-- [MQTT-3.1.2-14] the will's QoS is not 3
-- [MQTT-3.1.2-11], [MQTT-3.1.2-13], [MQTT-3.1.2-15] without a will its QoS and its retain flag are 0
unfoldable pub will_flags : ℕ → Bool
will_flags f =
    eqb (f % 2) 0
    && not (eqb (f / 8 % 4) 3)
    && (is_set 4 f || eqb (f / 8 % 8) 0)

-- [MQTT-3.1.2-22] no password without a user name
unfoldable pub password_flag : ℕ → Bool
password_flag f = is_set 128 f || not (is_set 64 f)

-- [MQTT-3.1.3-3] the client id is the payload's first field
abbrev pub client_field : List ℕ → ToldField
client_field b = data_field b (begin 10)

-- [MQTT-3.1.3-7], [MQTT-3.1.3-8] an empty client id only with a clean session
unfoldable pub client_named : ℕ → ToldField → Bool
client_named f client = is_set 2 f || ltb client.from client.next

-- [MQTT-3.1.3-1] behind the client id stand, in this order: will topic and will message, user name, password
-- [MQTT-3.1.2-9], [MQTT-3.1.2-11], [MQTT-3.1.2-18] to [MQTT-3.1.2-21] each where its flag is set, and only there, since nothing may stand behind the last
-- [MQTT-3.1.3-10], [MQTT-3.1.3-11] will topic and user name are strings
unfoldable pub connect_tail : ℕ → List ℕ → ToldField → ToldField
connect_tail f b client =
    data_if (is_set 64 f) b
    (string_if (is_set 128 f) b
    (data_if (is_set 4 f) b
    (string_if (is_set 4 f) b client)))

-- [MQTT-2.2.2-1], [MQTT-2.2.2-2] the flags of the fixed header are 0; then the checks above; and nothing stands behind the last field
unfoldable pub connect_built : ℕ → List ℕ → Bool
connect_built flags b =
    eqb flags 0
    && connect_head 4 b
    && will_flags (connect_flags b)
    && password_flag (connect_flags b)
    && client_named (connect_flags b) (client_field b)
    && ends_behind b (connect_tail (connect_flags b) b (client_field b))

-- its one piece: the client id as topic, and no payload
unfoldable pub connect_piece : List ℕ → ToldPiece
connect_piece b = cond (client_field b).fine (piece_of 0 (client_field b).from (client_field b).next (length b) (length b)) no_piece
