-- What proofs here and in crates above need of the hashes: each fits 32 bits, and the payload hash has 32 bytes; what the hashes of an empty and of any
-- other text are. That the words of the payload hash are little-endian (document 01, "Hashes") is shown here too.
-- Assumes nothing.
use Rattle.std.proofs.Common.{◌≡◌, ℕ, ◌^◌, ◌<◌, Bool, true, false, cond, leb, List, [], ◌∷◌, length, drop, replicate, refl, mod-lt, arith, pow_pos, fold}
use Rattle.std.proofs.lemmas.List.Folds.{fold_along}
use Rattle.topics.specs.Hashes.{fnv_step, fnv1a, djb_step, djb2, suffix_hash, client_hashes}
use Rattle.topics.specs.Payload.{streams_of, le_bytes, word_bytes, payload_hash}

-- a fold from a word, each step of which gives a word
word_kept : (f : ℕ → ℕ → ℕ) → ((h b : ℕ) → f h b < 2 ^ 32) → (h : ℕ) (s : List ℕ) → h < 2 ^ 32 → fold f h s < 2 ^ 32
word_kept f k h s l = fold_along f (λ (u : ℕ) (b : ℕ). u) (λ h u. h < 2 ^ 32) (λ h u b m. k h b) h 0 s l

-- each hash fits 32 bits; request C-23, which writes them, waits for that
pub fnv_lt : (s : List ℕ) → fnv1a s < 2 ^ 32
unfolding fnv1a
fnv_lt s = word_kept fnv_step (λ h b. mod-lt _ (pow_pos 32)) 0x811c9dc5 s (omega arith)

djb_lt : (s : List ℕ) → djb2 s < 2 ^ 32
unfolding djb2
djb_lt s = word_kept djb_step (λ h b. mod-lt _ (pow_pos 32)) 5381 s (omega arith)

pub suffix_lt : (s : List ℕ) → suffix_hash s < 2 ^ 32
unfolding suffix_hash
suffix_lt s = either (leb (length s) 32)
  where
    either : (b : Bool) → cond b 0 (djb2 (drop 32 s)) < 2 ^ 32
    either true = omega arith
    either false = djb_lt (drop 32 s)

-- the payload hash has 32 bytes
pub payload_length : (d : List ℕ) → length (payload_hash d) ≡ 32
unfolding payload_hash word_bytes
payload_length [] = refl
payload_length (b ∷ d) = refl

-- a word's least byte comes first: the example of Rust's `u32::to_le_bytes`
pub least_first : le_bytes 0x12345678 ≡ 0x78 ∷ 0x56 ∷ 0x34 ∷ 0x12 ∷ []
least_first = refl

-- an empty client id, and any other
pub client_none : (s : List ℕ) → length s ≡ 0 → client_hashes s ≡ record { hash = 0; hash2 = 0 }
unfolding client_hashes
client_none [] e = refl
client_none (b ∷ s) e = absurd (omega arith)

pub client_some : (s : List ℕ) → (length s ≡ 0 → ⊥) → client_hashes s ≡ record { hash = fnv1a s; hash2 = djb2 s }
unfolding client_hashes
client_some [] n = absurd (n refl)
client_some (b ∷ s) n = refl

-- no payload, and any other
pub payload_none : (d : List ℕ) → length d ≡ 0 → payload_hash d ≡ replicate 32 0
unfolding payload_hash
payload_none [] e = refl
payload_none (b ∷ d) e = absurd (omega arith)

pub payload_some : (d : List ℕ) → (length d ≡ 0 → ⊥) → payload_hash d ≡ word_bytes (streams_of d)
unfolding payload_hash
payload_some [] n = absurd (n refl)
payload_some (b ∷ d) n = refl
