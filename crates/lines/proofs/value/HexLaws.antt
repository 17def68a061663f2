-- Laws of hex read: what a digit is worth, what one pair of digits more tells, and what each way through the reader gives. Assumes nothing.
use Prim.Native.Nat.{ℕ, ◌+◌, ◌*◌, ◌%◌, ◌≤◌, ◌<◌}
use mathlib.Core.Path.{◌≡◌, refl}
use mathlib.Core.Bool.{true, false, ◌&&◌, and-false}
use mathlib.Core.List.{List, ◌∷◌}
use native.Mathlib.Numerals.{add-one}
use native.Mathlib.Omega.{arith}
use lib.Dec.{eqb, leb}
use lib.ListN.{length, drop, get_or, set, length-set, drop_of_length-le}
use lib.Seq.{sets}
use borrow.Author.Tests.{eq-eqb, ne_eqb, eqb-true, le-leb, lt-leb, leb-true}
use Rattle.laws.specs.Lists.{every}
use Rattle.laws.proofs.Cases.{by}
use Rattle.laws.proofs.Tests.{both, either}
use Rattle.slices.proofs.bytes.WalkLaws.{opened}
use Rattle.lines.specs.ReadHex.{is_hex, hex_value, hex_count, hex_refusal, unhex}

-- a hex digit is one of two kinds
pub hex_kinds : {P : Type 0} (c : ℕ) → is_hex c ≡ true → (48 ≤ c → c ≤ 57 → P) → (97 ≤ c → c ≤ 102 → P) → P
unfolding is_hex
hex_kinds c e f g =
    either _ _ e
    (λ a. let h = both _ _ a in f (leb-true _ _ h.0) (leb-true _ _ h.1))
    (λ a. let h = both _ _ a in g (leb-true _ _ h.0) (leb-true _ _ h.1))

-- what is left at a place where a pair of digits stands: its byte, and what is left after it
unhex_pair : (l : List ℕ) (i : ℕ) → i * 2 + 1 < length l → unhex (drop (i * 2) l) ≡ (hex_value (get_or l (i * 2) 0) * 16 + hex_value (get_or l (i * 2 + 1) 0)) ∷ unhex (drop ((i + 1) * 2) l)
unfolding unhex
unhex_pair l i h =
    let e : i * 2 + 1 + 1 ≡ (i + 1) * 2 = omega arith in
    rw (opened l (i * 2) (omega arith), opened l (i * 2 + 1) h, e)

module _ (room : ℕ) (l : List ℕ) where
  -- an odd count: 24
  pub hex_odd : (length l % 2 ≡ 0 → ⊥) → 24 ≡ hex_refusal room l
  unfolding hex_refusal
  hex_odd h = rw (ne_eqb _ _ h)

  -- a byte that is no digit: 24
  pub hex_other : every is_hex l ≡ false → 24 ≡ hex_refusal room l
  unfolding hex_refusal
  hex_other e = rw (e, and-false)

  -- an even count of digits: 25 or 0, by the room
  pub hex_long : length l % 2 ≡ 0 → every is_hex l ≡ true → room < hex_count l → 25 ≡ hex_refusal room l
  unfolding hex_refusal
  hex_long z e h = rw (eq-eqb _ _ z, e, lt-leb _ _ h)

  pub hex_fits : length l % 2 ≡ 0 → every is_hex l ≡ true → hex_count l ≤ room → 0 ≡ hex_refusal room l
  unfolding hex_refusal
  hex_fits z e h = rw (eq-eqb _ _ z, e, le-leb _ _ h)

-- a refusal of 0: the count is even, every byte is a digit, and there is room
pub hex_taken : (room : ℕ) (l : List ℕ) → hex_refusal room l ≡ 0 → (length l % 2 ≡ 0) × (every is_hex l ≡ true) × (hex_count l ≤ room)
unfolding hex_refusal
hex_taken room l e =
    by (eqb (length l % 2) 0 && every is_hex l)
    (λ t.
    by (leb (hex_count l) room)
    (λ u. let h = both _ _ t in (eqb-true _ _ h.0, h.1, leb-true _ _ u))
    (λ u. absurd (let z : ◌≡◌ {A = ℕ} 25 0 = rw (t, u) at e in omega arith)))
    (λ t. absurd (let z : ◌≡◌ {A = ℕ} 24 0 = rw t at e in omega arith))

-- how far the bytes are: with the first `i` of them in it, the buffer `d` is `e`
pub record Unhexed (d : List ℕ) (l : List ℕ) (e : List ℕ) (i : ℕ) : Type 0 where
  pub same : length e ≡ length d
  pub left : sets e i (unhex (drop (i * 2) l)) ≡ sets d 0 (unhex l)

-- at the start none is
pub unhexed_none : (d l : List ℕ) → Unhexed d l d 0
unhexed_none d l = record { same = refl; left = refl }

-- one byte more
pub unhexed_next : {d l e : List ℕ} {i v : ℕ} → Unhexed d l e i → i * 2 + 1 < length l → v ≡ hex_value (get_or l (i * 2) 0) * 16 + hex_value (get_or l (i * 2 + 1) 0) → Unhexed d l (set e i v) (i + 1)
unhexed_next {d} {l} {e} {i} {v} u h q =
    record {
      same = simp length-set u.same;
      left = rw (q, add-one i) ((rw (unhex_pair l i h, add-one i) at u.left));
    }

-- all are
pub unhexed_all : {d l e : List ℕ} {i : ℕ} → Unhexed d l e i → length l ≤ i * 2 → e ≡ sets d 0 (unhex l)
unfolding unhex
unhexed_all {d} {l} {e} {i} u h = rw (drop_of_length-le l h) at u.left
