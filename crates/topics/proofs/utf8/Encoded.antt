-- Every encoding of scalar values is UTF-8, and has a zero byte only for U+0000 (specs/Encoding.antt). Assumes nothing.
use Rattle.std.proofs.Common.{◌≡◌, ℕ, ◌+◌, ◌-◌, ◌*◌, ◌/◌, ◌%◌, ◌<◌, ◌≤◌, Bool, true, false, ◌&&◌, ◌||◌, eqb, ltb, leb, List, [], ◌∷◌, ◌++◌, sym, refl, ap, ◌∙◌, arith, fold}
use Rattle.std.proofs.Common.{ltb-false, ltb-true, lt-ltb, ne_eqb, le-leb, leb-true}
use Rattle.laws.specs.Lists.{every}
use Rattle.laws.proofs.Cases.{by}
use Rattle.laws.proofs.Every.{every_both}
use Rattle.laws.proofs.Tests.{both, either}
use Rattle.slices.specs.Bytes.{has}
use Rattle.slices.proofs.bytes.WalkLaws.{has-cons}
use Rattle.topics.specs.Encoding.{last_six, encode, encode_all}
use Rattle.topics.specs.Utf8.{is_scalar, between, inside, ended, added, taken, is_utf8}
use Rattle.topics.proofs.utf8.DecodeLaws.{begun_one, begun_two, begun_three, begun_four}

-- a scalar value is at most 10FFFF
pub scalar_top : (v : ℕ) → is_scalar v ≡ true → v ≤ 0x10FFFF
scalar_top v s =
    either (leb v 0xD7FF) (leb 0xE000 v && leb v 0x10FFFF) s (λ e. omega (arith, leb-true v 0xD7FF e))
    (λ e. leb-true v 0x10FFFF (both (leb 0xE000 v) (leb v 0x10FFFF) e).1)

-- a first byte
first_1 : (v : ℕ) → v < 0x80 → taken between v ≡ between
unfolding taken
first_1 v h = begun_one v h

first_2 : (x : ℕ) → x < 32 → taken between (0xC0 + x) ≡ inside 1 x 0x80
unfolding taken
first_2 x h = begun_two (0xC0 + x) (omega arith) (omega arith) ∙ ap (λ (y : ℕ). inside 1 y 0x80) (omega arith)

first_3 : (x : ℕ) → x < 16 → taken between (0xE0 + x) ≡ inside 2 x 0x800
unfolding taken
first_3 x h = begun_three (0xE0 + x) (omega arith) (omega arith) ∙ ap (λ (y : ℕ). inside 2 y 0x800) (omega arith)

first_4 : (x : ℕ) → x < 8 → taken between (0xF0 + x) ≡ inside 3 x 0x10000
unfolding taken
first_4 x h = begun_four (0xF0 + x) (omega arith) (omega arith) ∙ ap (λ (y : ℕ). inside 3 y 0x10000) (omega arith)

-- a next byte: `w` is the number so far, `v` the one with its last six bits
module _ (w v least : ℕ) (e : w * 64 + v % 64 ≡ v) where
  low : leb 0x80 (last_six v) ≡ true
  low = le-leb 0x80 (last_six v) (omega arith)

  high : ltb (last_six v) 0xC0 ≡ true
  high = lt-ltb (last_six v) 0xC0 (omega arith)

  six : w * 64 + (last_six v - 0x80) ≡ v
  six = omega arith

  -- more are to come
  next : (left : ℕ) → 1 ≤ left → taken (inside (left + 1) w least) (last_six v) ≡ inside left v least
  unfolding taken added
  next left h =
      let n : eqb (left + 1) 0 ≡ false = ne_eqb (left + 1) 0 (λ z. omega arith) in
      let m : ltb 1 (left + 1) ≡ true = lt-ltb 1 (left + 1) (omega arith) in
      let o : left + 1 - 1 ≡ left = omega arith in
      rw (n, low, high, m, six, o)

  -- the last one
  last : least ≤ v → is_scalar v ≡ true → taken (inside 1 w least) (last_six v) ≡ between
  unfolding taken added ended
  last l s = rw (low, high, six, le-leb _ _ l, s)

-- one scalar value
one : (v : ℕ) (rest : List ℕ) → is_scalar v ≡ true → fold taken between (encode v ++ rest) ≡ fold taken between rest
unfolding encode
one v rest s =
    let top : v ≤ 0x10FFFF = scalar_top v s in
    by (ltb v 0x80) (λ a. rw (a, first_1 v (ltb-true v 0x80 a)))
    (λ a.
    let la : 0x80 ≤ v = ltb-false v 0x80 a in
    by (ltb v 0x800)
    (λ b. let lb : v < 0x800 = ltb-true v 0x800 b in rw (a, b, first_2 (v / 64) (omega arith), last (v / 64) v 0x80 (omega arith) la s))
    (λ b.
    let lb : 0x800 ≤ v = ltb-false v 0x800 b in
    by (ltb v 0x10000)
    (λ c.
    let lc : v < 0x10000 = ltb-true v 0x10000 c in
    rw (a, b, c, first_3 (v / 4096) (omega arith), next (v / 4096) (v / 64) 0x800 (omega arith) 1 (omega arith), last (v / 64) v 0x800 (omega arith) lb s))
    (λ c.
    let lc : 0x10000 ≤ v = ltb-false v 0x10000 c in
    rw (
      a,
      b,
      c,
      first_4 (v / 262144) (omega arith),
      next (v / 262144) (v / 4096) 0x10000 (omega arith) 2 (omega arith),
      next (v / 4096) (v / 64) 0x10000 (omega arith) 1 (omega arith),
      last (v / 64) v 0x10000 (omega arith) lc s,
    ))))

all : (vs : List ℕ) → every is_scalar vs ≡ true → fold taken between (encode_all vs) ≡ between
unfolding encode_all
all [] s = refl
all (v ∷ vs) s = let h = every_both is_scalar v vs s in one v (encode_all vs) h.0 ∙ all vs h.1

pub encoded : (vs : List ℕ) → every is_scalar vs ≡ true → is_utf8 (encode_all vs) ≡ true
unfolding is_utf8
encoded vs s = rw (all vs s)

-- a byte that is not zero
skip : (b : ℕ) (s : List ℕ) → 1 ≤ b → has 0 (b ∷ s) ≡ has 0 s
skip b s h = has-cons 0 b s ∙ ap (λ (t : Bool). t || has 0 s) (ne_eqb b 0 (λ e. omega arith))

-- a next byte is none
skip_six : (v : ℕ) (s : List ℕ) → has 0 (last_six v ∷ s) ≡ has 0 s
skip_six v s = skip (last_six v) s (omega arith)

-- one number: its bytes have a zero byte where it is zero
zero_one : (v : ℕ) (rest : List ℕ) → has 0 (encode v ++ rest) ≡ has 0 (v ∷ rest)
unfolding encode
zero_one v rest =
    by (ltb v 0x80) (λ a. rw a)
    (λ a.
    let n : has 0 (v ∷ rest) ≡ has 0 rest = skip v rest (omega (arith, ltb-false v 0x80 a)) in
    by (ltb v 0x800) (λ b. rw (a, b, n) (skip (0xC0 + v / 64) _ (omega arith) ∙ skip_six v _))
    (λ b.
    by (ltb v 0x10000) (λ c. rw (a, b, c, n) (skip (0xE0 + v / 4096) _ (omega arith) ∙ skip_six (v / 64) _ ∙ skip_six v _))
    (λ c. rw (a, b, c, n) (skip (0xF0 + v / 262144) _ (omega arith) ∙ skip_six (v / 4096) _ ∙ skip_six (v / 64) _ ∙ skip_six v _))))

-- the same before equal rests
zero_like : (v : ℕ) (s t : List ℕ) → has 0 s ≡ has 0 t → has 0 (v ∷ s) ≡ has 0 (v ∷ t)
zero_like v s t e = has-cons 0 v s ∙ ap (λ (z : Bool). eqb v 0 || z) e ∙ sym (has-cons 0 v t)

pub zero_byte : (vs : List ℕ) → has 0 (encode_all vs) ≡ has 0 vs
unfolding encode_all
zero_byte [] = refl
zero_byte (v ∷ vs) = zero_one v (encode_all vs) ∙ zero_like v (encode_all vs) vs (zero_byte vs)
