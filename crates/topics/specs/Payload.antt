-- Document 01, "Hashes": the payload hash is 32 zero bytes for no data, else eight little-endian words as in source document 001 (`compute_payload_hash`):
-- five streams run over the bytes, and the words mix them.
-- Assumes nothing.
use Rattle.std.specs.Prelude.{ℕ, ◌+◌, ◌-◌, ◌*◌, ◌/◌, ◌%◌, ◌^◌, List, [], ◌∷◌, ◌++◌, length, replicate, bit_xor, fold}
use Rattle.topics.specs.Hashes.{times, fnv_step}
use Rattle.topics.specs.declared.payload.Streams.{Streams}

-- a word turned left by k bits, k from 1 to 31; turned right by k is turned left by 32 - k
abbrev pub rotl : ℕ → ℕ → ℕ
rotl k x = (x * 2 ^ k) % 2 ^ 32 + x / 2 ^ (32 - k)

-- the five streams before the first byte, of data n bytes long
unfoldable pub streams_start : ℕ → Streams
streams_start n =
    record {
      h1 = 0x811c9dc5;
      h3 = 0x811c9dc5;
      h7 = (0x811c9dc5 + n % 2 ^ 32) % 2 ^ 32;
      h9 = (0x811c9dc5 + 0xdeadbeef) % 2 ^ 32;
      h10 = bit_xor 0x811c9dc5 (times (n % 2 ^ 32) 0x9e3779b9);
    }

-- the streams after one byte more
unfoldable pub streams_step : Streams → ℕ → Streams
streams_step s b =
    record {
      h1 = fnv_step s.h1 b;
      h3 = times (bit_xor (rotl 5 s.h3) b) 0x01000193;
      h7 = fnv_step s.h7 b;
      h9 = times (bit_xor (rotl 13 s.h9) b) 0x6c62272e;
      h10 = times (bit_xor s.h10 (bit_xor b (b * 16))) 0x01000193;
    }

-- the streams after all bytes
unfoldable pub streams_of : List ℕ → Streams
streams_of d = fold streams_step (streams_start (length d)) d

-- words 1, 3 and 7 are the streams h1, h3 and h7 themselves; the other five mix. Word 2: h1 and h9
unfoldable pub word2 : Streams → ℕ
word2 s = bit_xor (times s.h1 0x9e3779b9) (times s.h9 0x85ebca6b)

-- word 4: words 1 to 3, h9 and h10
unfoldable pub word4 : Streams → ℕ
word4 s =
    bit_xor (bit_xor (bit_xor (bit_xor (times s.h1 0x85ebca6b) (times (word2 s) 0xc2b2ae35)) s.h3) (rotl 7 s.h9)) (rotl 29 s.h10)

-- word 5: word 4 and h10
unfoldable pub word5 : Streams → ℕ
word5 s = (times (word4 s) 0x6c62272e + s.h10) % 2 ^ 32

-- word 6: words 1 to 4 and h9, each turned
unfoldable pub word6 : Streams → ℕ
word6 s =
    bit_xor (bit_xor (bit_xor (bit_xor (rotl 5 s.h1) (rotl 29 (word2 s))) (rotl 11 s.h3)) (rotl 25 (word4 s))) (rotl 17 s.h9)

-- word 8: words 5 to 7 and h10
unfoldable pub word8 : Streams → ℕ
word8 s = bit_xor (bit_xor (times (word5 s) 0x9e3779b9) ((word6 s + s.h7) % 2 ^ 32)) (times s.h10 0xc2b2ae35)

-- a word as four bytes, the least first
abbrev pub le_bytes : ℕ → List ℕ
le_bytes w = w % 256 ∷ w / 256 % 256 ∷ w / 65536 % 256 ∷ w / 16777216 % 256 ∷ []

-- the eight words as bytes
unfoldable pub word_bytes : Streams → List ℕ
word_bytes s =
    le_bytes s.h1 ++ le_bytes (word2 s) ++ le_bytes s.h3 ++ le_bytes (word4 s) ++ le_bytes (word5 s) ++ le_bytes (word6 s)
    ++ le_bytes s.h7 ++ le_bytes (word8 s)

-- the payload hash
unfoldable pub payload_hash : List ℕ → List ℕ
payload_hash [] = replicate 32 0
payload_hash (b ∷ d) = word_bytes (streams_of (b ∷ d))
