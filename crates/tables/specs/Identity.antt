-- Document 01, "Hashes": a topic identity is its length, its first bytes up to 32, FNV-1a, djb2 and the suffix hash. Buckets and trackers hold one.
-- Assumes nothing.
use Rattle.std.specs.Prelude.{Bool, ◌&&◌, List, [], ◌++◌, ℕ, ◌-◌, ◌%◌, min, eqb, length, take, replicate}
use Rattle.slices.specs.Bytes.{same}
use Rattle.topics.specs.Hashes.{fnv1a, djb2, suffix_hash}
use Rattle.tables.specs.declared.identity.Id.{Id}

-- the first 32 bytes of a topic, zeros after its end
unfoldable pub prefix_of : List ℕ → List ℕ
prefix_of t = take 32 t ++ replicate (32 - length t) 0

-- the identity of a topic; lengths are kept modulo 65,536, above every topic that is inspected
unfoldable pub id_of : List ℕ → Id
id_of t =
    record {
      hash = fnv1a t;
      hash2 = djb2 t;
      prefix = prefix_of t;
      prefix_len = min (length t) 32;
      len = length t % 65536;
      suffix_hash = suffix_hash t;
    }

-- how many of the first bytes a held identity is compared by: those that it keeps, and no more than the topic has
abbrev pub compared : Id → Id → ℕ
compared held id = min id.len held.prefix_len

-- a held identity is that of a topic: equal hashes, length, suffix hash and first bytes
unfoldable pub is_of : Id → Id → Bool
is_of id held =
    eqb held.hash id.hash && eqb held.hash2 id.hash2 && eqb held.len id.len && eqb held.suffix_hash id.suffix_hash
    && same (take (compared held id) held.prefix) (take (compared held id) id.prefix)

-- the test of the two remove calls: no suffix hash, the length modulo 65,536, all 32 bytes
unfoldable pub is_removed : Id → Id → Bool
is_removed id held =
    eqb held.hash id.hash && eqb held.hash2 id.hash2 && eqb held.len id.len && same held.prefix id.prefix

-- what stands past a table's end, as the checker reads it: its array is empty
abbrev pub no_id : Id
no_id = record { hash = 0; hash2 = 0; prefix = []; prefix_len = 0; len = 0; suffix_hash = 0 }

-- all zero, as in a free place
abbrev pub empty_id : Id
empty_id = record { hash = 0; hash2 = 0; prefix = replicate 32 0; prefix_len = 0; len = 0; suffix_hash = 0 }
