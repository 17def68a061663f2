-- Laws of the decoder's step, way by way, and that no number outgrows the code's 32 bits. Assumes nothing.
use Rattle.std.proofs.Common.{◌≡◌, ℕ, ◌-◌, ◌<◌, ◌≤◌, false, ◌&&◌, eqb, ltb, leb, ◌⊎◌, refl, inl, inr, arith, ltb-true, le-ltb, lt-ltb}
use Rattle.laws.proofs.Cases.{choose, clash}
use Rattle.laws.proofs.Tests.{both}
use Rattle.topics.specs.Utf8.{is_scalar, broken, between, inside, begun, continues, with_six, ended, added, taken}
use Rattle.topics.specs.declared.utf8.Decoding.{Decoding}

-- a first byte, by its leading bits
module _ (b : ℕ) where
  pub begun_one : b < 0x80 → begun b ≡ between
  unfolding begun
  begun_one h = rw (lt-ltb _ _ h)

  module _ (above : 0x80 ≤ b) where
    pub begun_stray : b < 0xC0 → begun b ≡ broken
    unfolding begun
    begun_stray h = rw (le-ltb _ _ above, lt-ltb _ _ h)

  module _ (above : 0xC0 ≤ b) where
    not_one : ltb b 0x80 ≡ false
    not_one = le-ltb b 0x80 (omega arith)

    pub begun_two : b < 0xE0 → begun b ≡ inside 1 (b - 0xC0) 0x80
    unfolding begun
    begun_two h = rw (not_one, le-ltb _ _ above, lt-ltb _ _ h)

  module _ (above : 0xE0 ≤ b) where
    not_two : ltb b 0xC0 ≡ false
    not_two = le-ltb b 0xC0 (omega arith)

    pub begun_three : b < 0xF0 → begun b ≡ inside 2 (b - 0xE0) 0x800
    unfolding begun
    begun_three h = rw (not_one (omega arith), not_two, le-ltb _ _ above, lt-ltb _ _ h)

  module _ (above : 0xF0 ≤ b) where
    not_three : ltb b 0xE0 ≡ false
    not_three = le-ltb b 0xE0 (omega arith)

    pub begun_four : b < 0xF8 → begun b ≡ inside 3 (b - 0xF0) 0x10000
    unfolding begun
    begun_four h = rw (not_one (omega arith), not_two (omega arith), not_three, le-ltb _ _ above, lt-ltb _ _ h)

  pub begun_above : 0xF8 ≤ b → begun b ≡ broken
  unfolding begun
  begun_above h =
      let n : ltb b 0xF0 ≡ false = le-ltb b 0xF0 (omega arith) in
      rw (not_one (omega arith), not_two (omega arith), not_three (omega arith), n, le-ltb _ _ h)

module _ (d : Decoding) (b : ℕ) where
  -- a next byte that is not 10xxxxxx
  pub add_broken : continues b ≡ false → added d b ≡ broken
  unfolding added
  add_broken e = rw e

  -- what is broken stays so
  pub take_broken : d.fine ≡ false → taken d b ≡ broken
  unfolding taken
  take_broken e = choose (λ (x : Decoding). x ≡ broken) d.fine (λ t. clash t e) (λ _. refl)

-- a number so far has at most 15 bits, and 9 or 3 if two or three bytes are to come
abbrev pub Narrow : Decoding → Type 0
Narrow d = (d.value < 0x8000) × ((d.left ≤ 1) ⊎ ((d.left ≡ 2) × (d.value < 0x200)) ⊎ ((d.left ≡ 3) × (d.value < 8)))

begun_narrow : (b : ℕ) → Narrow (begun b)
unfolding begun
begun_narrow b =
    choose Narrow (ltb b 0x80) (λ _. (omega arith, inl (omega arith)))
    (λ _. choose Narrow (ltb b 0xC0) (λ _. (omega arith, inl (omega arith)))
    (λ _. choose Narrow (ltb b 0xE0) (λ e. (omega (arith, ltb-true), inl (omega arith)))
    (λ _. choose Narrow (ltb b 0xF0) (λ e. (omega (arith, ltb-true), inr (inl (refl, omega (arith, ltb-true)))))
    (λ _. choose Narrow (ltb b 0xF8) (λ e. (omega (arith, ltb-true), inr (inr (refl, omega (arith, ltb-true)))))
    (λ _. (omega arith, inl (omega arith)))))))

added_narrow : (d : Decoding) (b : ℕ) → Narrow d → Narrow (added d b)
unfolding added ended
added_narrow d b h =
    choose Narrow (continues b)
    (λ e.
    choose Narrow (ltb 1 d.left) (λ m. more h.1 (ltb-true b 0xC0 (both (leb 0x80 b) (ltb b 0xC0) e).1) (ltb-true 1 d.left m))
    (λ _. choose Narrow (leb d.least (with_six d.value b) && is_scalar (with_six d.value b)) (λ _. (omega arith, inl (omega arith))) (λ _. (omega arith, inl (omega arith)))))
    (λ _. (omega arith, inl (omega arith)))
  where
    more : ((d.left ≤ 1) ⊎ ((d.left ≡ 2) × (d.value < 0x200)) ⊎ ((d.left ≡ 3) × (d.value < 8))) → b < 0xC0 → 1 < d.left
        → Narrow (inside (d.left - 1) (with_six d.value b) d.least)
    more (inl l) c m = absurd (omega arith)
    more (inr (inl (e, v))) c m = (omega arith, inl (omega arith))
    more (inr (inr (e, v))) c m = (omega arith, inr (inl (omega arith, omega arith)))

pub taken_narrow : (d : Decoding) (b : ℕ) → Narrow d → Narrow (taken d b)
unfolding taken
taken_narrow d b h =
    choose Narrow d.fine (λ _. choose Narrow (eqb d.left 0) (λ _. begun_narrow b) (λ _. added_narrow d b h)) (λ _. (omega arith, inl (omega arith)))
