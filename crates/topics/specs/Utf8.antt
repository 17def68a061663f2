-- MQTT 3.1.1, section 1.5.3: the bytes of a string are well formed UTF-8 (RFC 3629, section 3). They are decoded from left to right, and each character's number is put
-- together from its bytes. Refused: a byte out of place; a number with more bytes than it needs; a surrogate, or a number above 10FFFF; a character that is cut off.
-- That a string passes exactly where it is written as section 3 writes scalar values is claimed in Encoding.antt. U+0000 passes: who refuses it asks for a zero byte.
-- Assumes nothing.
use Rattle.std.specs.Prelude.{ℕ, suc, ◌+◌, ◌-◌, ◌*◌, Bool, true, false, cond, ◌&&◌, ◌||◌, List, [], ◌∷◌, ◌==◌, nat_le, nat_lt, fold}
use Rattle.topics.specs.declared.utf8.Decoding.{Decoding}

-- a scalar value: any number up to 10FFFF but the surrogates, D800 to DFFF
abbrev pub is_scalar : ℕ → Bool
is_scalar v = nat_le v 0xD7FF || (nat_le 0xE000 v && nat_le v 0x10FFFF)

-- no UTF-8, whatever follows
abbrev pub broken : Decoding
broken = record { fine = false; left = 0; value = 0; least = 0 }

-- between two characters, before the first or after the last
abbrev pub between : Decoding
between = record { fine = true; left = 0; value = 0; least = 0 }

-- inside a character: how many of its bytes are to come, its number so far, and the least number that needs so many bytes
abbrev pub inside : ℕ → ℕ → ℕ → Decoding
inside left value least = record { fine = true; left = left; value = value; least = least }

-- a character's first byte, by its leading bits: 0xxxxxxx, 10xxxxxx, 110xxxxx, 1110xxxx, 11110xxx, 11111xxx
unfoldable pub begun : ℕ → Decoding
begun b =
    cond (nat_lt b 0x80) between
    (cond (nat_lt b 0xC0) broken
    (cond (nat_lt b 0xE0) (inside 1 (b - 0xC0) 0x80)
    (cond (nat_lt b 0xF0) (inside 2 (b - 0xE0) 0x800)
    (cond (nat_lt b 0xF8) (inside 3 (b - 0xF0) 0x10000)
    broken))))

-- a byte 10xxxxxx, which continues a character
abbrev pub continues : ℕ → Bool
continues b = nat_le 0x80 b && nat_lt b 0xC0

-- a number with the six bits of such a byte behind it
abbrev pub with_six : ℕ → ℕ → ℕ
with_six value b = value * 64 + (b - 0x80)

-- a character all of whose bytes are there
unfoldable pub ended : ℕ → ℕ → Decoding
ended value least = cond (nat_le least value && is_scalar value) between broken

-- a character's next byte
unfoldable pub added : Decoding → ℕ → Decoding
added d b =
    cond (continues b)
    (cond (nat_lt 1 d.left)
    (inside (d.left - 1) (with_six d.value b) d.least)
    (ended (with_six d.value b) d.least))
    broken

-- one byte more
unfoldable pub taken : Decoding → ℕ → Decoding
taken d b = cond d.fine (cond (d.left == 0) (begun b) (added d b)) broken

-- nothing was broken, and no character is cut off
abbrev pub is_whole : Decoding → Bool
is_whole d = d.fine && d.left == 0

-- the bytes are UTF-8
unfoldable pub is_utf8 : List ℕ → Bool
is_utf8 s = is_whole (fold taken between s)

-- how many bytes stand before the first that is not ASCII, where the code begins to decode
unfoldable pub ascii_end : List ℕ → ℕ
ascii_end [] = 0
ascii_end (b ∷ s) = elim (nat_lt b 0x80) [ true ↦ suc (ascii_end s) | false ↦ 0 ]
