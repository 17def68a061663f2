-- Document 01, "Hashes": FNV-1a, djb2, the suffix hash and a client's two hashes. All products and sums are arithmetic modulo 2 ^ 32.
-- Assumes nothing.
use Rattle.std.specs.Prelude.{ℕ, ◌+◌, ◌*◌, ◌%◌, ◌^◌, cond, List, [], ◌∷◌, length, drop, bit_xor, nat_le, fold}
use Rattle.topics.specs.declared.hashes.ClientHashes.{ClientHashes}

-- the product of two words, wrapped at 32 bits
abbrev pub times : ℕ → ℕ → ℕ
times a b = (a * b) % 2 ^ 32

-- one byte more: xor, then times 0x01000193
abbrev pub fnv_step : ℕ → ℕ → ℕ
fnv_step h b = times (bit_xor h b) 0x01000193

-- FNV-1a of 32 bits, from 0x811c9dc5
unfoldable pub fnv1a : List ℕ → ℕ
fnv1a s = fold fnv_step 0x811c9dc5 s

-- one byte more: times 33 plus the byte
abbrev pub djb_step : ℕ → ℕ → ℕ
djb_step h b = (h * 33 + b) % 2 ^ 32

-- djb2, from 5381
unfoldable pub djb2 : List ℕ → ℕ
djb2 s = fold djb_step 5381 s

-- 0 up to 32 bytes, else djb2 of the rest
unfoldable pub suffix_hash : List ℕ → ℕ
suffix_hash s = cond (nat_le (length s) 32) 0 (djb2 (drop 32 s))

-- FNV-1a and djb2 of a client id; an empty one gives 0 and 0
unfoldable pub client_hashes : List ℕ → ClientHashes
client_hashes [] = record { hash = 0; hash2 = 0 }
client_hashes (b ∷ s) = record { hash = fnv1a (b ∷ s); hash2 = djb2 (b ∷ s) }
