-- What the buffer of `read::hex_field` holds at exit, for whoever goes on from it: it is as long as before, and where the line was read its first bytes are the line's. Assumes nothing.
use Prim.Native.Nat.{ℕ, ◌+◌, ◌≤◌}
use mathlib.Core.Path.{◌≡◌}
use mathlib.Core.List.{List}
use native.Mathlib.Omega.{arith}
use lib.Dec.{eqb}
use lib.ListN.{length, take, drop}
use lib.Seq.{sets, sets-eq, length-sets, take-append_seam}
use borrow.Author.Tests.{eqb-true, eqb-false}
use Rattle.laws.proofs.Cases.{by}
use Rattle.lines.specs.ReadHex.{hex_count, hex_refusal, unhex, hex_into}
use Rattle.lines.specs.Field.{line_at, value_of, hex_field, hex_kept}
use Rattle.lines.proofs.value.HexLaws.{hex_taken}
use Rattle.lines.proofs.HexRound.{unhex-length}

-- hex that is read, or refused, leaves the buffer's length
into_long : (d l : List ℕ) → length (hex_into d l) ≡ length d
unfolding hex_into
into_long d l =
    by (eqb (hex_refusal (length d) l) 0) (λ t. rw t (length-sets d 0 (unhex l))) (λ t. rw t)

-- bytes stored at the beginning are its first bytes
first_bytes : (d l : List ℕ) → length l ≤ length d → take (length l) (sets d 0 l) ≡ l
first_bytes d l h = rw (sets-eq l d 0 (omega arith)) (take-append_seam l (drop (0 + length l) d))

-- so are those of hex that is read
into_bytes : (d l : List ℕ) → hex_refusal (length d) l ≡ 0 → take (hex_count l) (hex_into d l) ≡ unhex l
unfolding hex_into
into_bytes d l e =
    let n : length (unhex l) ≡ hex_count l = unhex-length l in
    let h = hex_taken (length d) l e in
    rw (e, ← n) (first_bytes d (unhex l) (omega arith))

module _ (s : List ℕ) (at : ℕ) (key d : List ℕ) where
  -- the buffer is as long as before
  pub kept_long : length (hex_kept s at key d) ≡ length d
  unfolding hex_kept
  kept_long =
      by (eqb (line_at s at key).number 0)
      (λ t. rw t (into_long d (value_of s (line_at s at key))))
      (λ t. rw t)

  -- where the line was read, its bytes are the first
  pub kept_bytes : (hex_field s at key (length d)).number ≡ 0 → take (hex_field s at key (length d)).value (hex_kept s at key d) ≡ unhex (value_of s (hex_field s at key (length d)))
  unfolding hex_field hex_kept
  kept_bytes e =
      let l = value_of s (line_at s at key) in
      by (eqb (line_at s at key).number 0)
      (λ t.
      by (eqb (hex_refusal (length d) l) 0)
      (λ u. rw (t, u) (into_bytes d l (eqb-true _ _ u)))
      (λ u. absurd (eqb-false _ _ u (rw (t, u) at e))))
      (λ t. absurd (eqb-false _ _ t (rw t at e)))
