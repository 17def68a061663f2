-- UTF-8 the other way round, from numbers to bytes, as the table of RFC 3629, section 3, has it; and what is claimed: a string passes the test of Utf8.antt exactly where it
-- is written so. The proofs are in proofs/utf8/Encoded.antt and Decoded.antt.
-- Assumes nothing.
use Rattle.std.specs.Prelude.{◌≡◌, ℕ, ◌+◌, ◌/◌, ◌%◌, true, false, cond, List, [], ◌∷◌, ◌++◌, nat_lt}
use Rattle.laws.specs.Lists.{every}
use Rattle.slices.specs.Bytes.{has}
use Rattle.topics.specs.Utf8.{is_scalar, is_utf8}

-- a byte 10xxxxxx with the last six bits of a number
abbrev pub last_six : ℕ → ℕ
last_six v = 0x80 + v % 64

-- the bytes of a number: up to 7F one, to 7FF two, to FFFF three, else four; the first has the bits that the others leave over
unfoldable pub encode : ℕ → List ℕ
encode v =
    cond (nat_lt v 0x80) (v ∷ [])
    (cond (nat_lt v 0x800) ((0xC0 + v / 64) ∷ last_six v ∷ [])
    (cond (nat_lt v 0x10000) ((0xE0 + v / 4096) ∷ last_six (v / 64) ∷ last_six v ∷ [])
    ((0xF0 + v / 262144) ∷ last_six (v / 4096) ∷ last_six (v / 64) ∷ last_six v ∷ [])))

-- of many, one after another
unfoldable pub encode_all : List ℕ → List ℕ
encode_all [] = []
encode_all (v ∷ vs) = encode v ++ encode_all vs

-- scalar values that a string is written for
pub record Encodes (s : List ℕ) : Type 0 where
  pub values : List ℕ
  pub scalars : every is_scalar values ≡ true
  pub written : encode_all values ≡ s

-- a string is UTF-8 exactly where it is written for scalar values; and no zero byte is in it exactly where U+0000 is not among them
pub record Utf8Exactly : Type 0 where
  pub encoded : (vs : List ℕ) → every is_scalar vs ≡ true → is_utf8 (encode_all vs) ≡ true
  pub decoded : (s : List ℕ) → is_utf8 s ≡ true → Encodes s
  pub zero : (vs : List ℕ) → has 0 (encode_all vs) ≡ has 0 vs

-- a string that a client may send: UTF-8 [MQTT-1.5.3-1] without U+0000 [MQTT-1.5.3-2]
pub record Sendable (s : List ℕ) : Type 0 where
  pub encodes : Encodes s
  pub no_null : has 0 encodes.values ≡ false
