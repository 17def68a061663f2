-- One answer for every public function of `slices`, and nothing asked of its caller (specs/One.antt). Assumes nothing.
use Prim.Native.Nat.{ℕ, ◌<◌}
use mathlib.Core.Path.{sym, ◌∙◌}
use mir.Syntax.{w64}
use mir.Val.{Fits}
use denote.Param.{number}
use Rattle.std.proofs.Common.{rules}
use Rattle.slices.specs.contracts.bytes.same_bytes as bytes-same_bytes
use Rattle.slices.proofs.bytes.same_bytes.Reads as bytes-same_bytes-reads
use Rattle.slices.specs.contracts.bytes.starts_with as bytes-starts_with
use Rattle.slices.proofs.bytes.starts_with.Reads as bytes-starts_with-reads
use Rattle.slices.specs.contracts.bytes.has_byte as bytes-has_byte
use Rattle.slices.proofs.bytes.has_byte.Reads as bytes-has_byte-reads
use Rattle.slices.specs.contracts.bytes.count_byte as bytes-count_byte
use Rattle.slices.proofs.bytes.count_byte.Reads as bytes-count_byte-reads
use Rattle.slices.specs.contracts.bytes.find_byte as bytes-find_byte
use Rattle.slices.proofs.bytes.find_byte.Reads as bytes-find_byte-reads
use Rattle.slices.specs.contracts.bytes.padded as bytes-padded
use Rattle.slices.proofs.bytes.padded.Reads as bytes-padded-reads
use Rattle.theorems.specs.One.{Any, One}

pub one-bytes-same_bytes : One bytes-same_bytes.ended bytes-same_bytes-reads.Post
one-bytes-same_bytes κs a x y e f p q = p ∙ sym q

pub any-bytes-same_bytes : Any bytes-same_bytes.ended bytes-same_bytes-reads.Asked
any-bytes-same_bytes κs a = tt

pub one-bytes-starts_with : One bytes-starts_with.ended bytes-starts_with-reads.Post
one-bytes-starts_with κs a x y e f p q = p ∙ sym q

pub any-bytes-starts_with : Any bytes-starts_with.ended bytes-starts_with-reads.Asked
any-bytes-starts_with κs a = tt

pub one-bytes-has_byte : One bytes-has_byte.ended bytes-has_byte-reads.Post
one-bytes-has_byte κs a x y e f p q = p ∙ sym q

pub any-bytes-has_byte : Any bytes-has_byte.ended bytes-has_byte-reads.Asked
any-bytes-has_byte κs a = tt

pub one-bytes-count_byte : One bytes-count_byte.ended bytes-count_byte-reads.Post
one-bytes-count_byte κs a x y e f p q = p ∙ sym q

pub any-bytes-count_byte : Any bytes-count_byte.ended bytes-count_byte-reads.Asked
any-bytes-count_byte κs a = tt

pub one-bytes-find_byte : One bytes-find_byte.ended bytes-find_byte-reads.Post
one-bytes-find_byte κs a x y e f p q = p.0 ∙ sym q.0

pub any-bytes-find_byte : Any bytes-find_byte.ended bytes-find_byte-reads.Asked
any-bytes-find_byte κs a = tt

-- for every length that an array of bytes can have
pub one-bytes-padded : (N : ℕ) (F : Fits w64 N) → One (bytes-padded.ended (number N)) (bytes-padded-reads.Post N F)
one-bytes-padded N F κs a x y e f p q = p ∙ sym q

pub any-bytes-padded : (N : ℕ) (F : Fits w64 N) (S : N < 9223372036854775808) → Any (bytes-padded.ended (number N)) (bytes-padded-reads.Asked N F)
any-bytes-padded N F S κs a = search rules
