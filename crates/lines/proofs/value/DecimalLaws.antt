-- Laws of decimals read: what one digit more tells, and what each way through the reader gives. Assumes nothing.
use Prim.Native.Nat.{ℕ, ◌+◌, ◌≤◌, ◌<◌}
use mathlib.Core.Path.{◌≡◌, refl, sym, ◌∙◌}
use mathlib.Core.Bool.{true, false, not, and-false}
use mathlib.Core.List.{List, [], ◌∷◌}
use native.Mathlib.Omega.{arith}
use lib.Dec.{eqb}
use lib.ListN.{length, drop, get_or, drop_of_length-le}
use borrow.Author.Tests.{le-leb, lt-leb, leb-true, leb-false}
use Rattle.laws.specs.Lists.{every}
use Rattle.laws.proofs.Cases.{by}
use Rattle.laws.proofs.Tests.{both}
use Rattle.laws.proofs.Every.{every_on, every_off, every_end}
use Rattle.slices.proofs.bytes.WalkLaws.{opened}
use Rattle.lines.specs.declared.value.Number.TheVariants.{Value, Bad}
use Rattle.lines.specs.ReadDecimal.{is_digit, with_digit, digit_fits, digits_after, no_spare_zero, decimal_of}

module _ (v c high : ℕ) where
  -- a digit that fits is a digit, and the number with it is at most the highest
  pub digit_room : digit_fits v c high ≡ true → (48 ≤ c) × (c ≤ 57) × (with_digit v c ≤ high)
  unfolding is_digit digit_fits
  digit_room e =
      let d = both _ _ e in
      let f = both _ _ d.0 in
      (leb-true _ _ f.0, leb-true _ _ f.1, leb-true _ _ d.1)

-- more than one byte: whether there is a spare zero
pub spare_more : (l : List ℕ) → (length l ≡ 0 → ⊥) → (length l ≡ 1 → ⊥) → not (eqb (get_or l 0 0) 48) ≡ no_spare_zero l
unfolding no_spare_zero
spare_more [] h g = absurd (h refl)
spare_more (c ∷ []) h g = absurd (g refl)
spare_more (c ∷ (d ∷ l)) h g = refl

-- more digits never make a number less
digits_grow : (v : ℕ) (l : List ℕ) → v ≤ digits_after v l
unfolding digits_after
digits_grow v [] = omega arith
digits_grow v (c ∷ cs) = omega (arith, digits_grow (with_digit v c) cs)

-- how far a reading is: `v` is the number that the first `i` bytes spell, all of them digits
pub record Reading (l : List ℕ) (i v : ℕ) : Type 0 where
  pub digits : every is_digit (drop i l) ≡ every is_digit l
  pub number : digits_after v (drop i l) ≡ digits_after 0 l

-- at the start nothing is read
pub reading_none : (l : List ℕ) → Reading l 0 0
reading_none l = record { digits = refl; number = refl }

-- a digit more
pub reading_next : {l : List ℕ} {i v : ℕ} (high : ℕ) → Reading l i v → i < length l → digit_fits v (get_or l i 0) high ≡ true → Reading l (i + 1) (with_digit v (get_or l i 0))
unfolding digit_fits digits_after
reading_next {l} {i} high r h e =
    let d : is_digit (get_or l i 0) ≡ true = (both _ _ e).0 in
    record {
      digits = every_on is_digit l 0 i h d ∙ r.digits;
      number = rw (opened l i h) at r.number;
    }

module _ (low high : ℕ) (l : List ℕ) where
  -- a spare zero, or nothing at all
  pub decimal_spare : no_spare_zero l ≡ false → Bad ≡ decimal_of low high l
  unfolding decimal_of
  decimal_spare e = rw e

  -- a byte that is no digit
  decimal_other : every is_digit l ≡ false → Bad ≡ decimal_of low high l
  unfolding decimal_of
  decimal_other e = rw (e, and-false)

  -- a number above the range
  decimal_above : high < digits_after 0 l → Bad ≡ decimal_of low high l
  unfolding decimal_of
  decimal_above h = rw (lt-leb _ _ h, and-false)

  -- a number below the range
  decimal_below : digits_after 0 l < low → Bad ≡ decimal_of low high l
  unfolding decimal_of
  decimal_below h = rw (lt-leb _ _ h, and-false)

  module _ {i v : ℕ} (r : Reading l i v) where
    -- a byte that is no digit, or takes the number above the range
    pub decimal_stop : i < length l → digit_fits v (get_or l i 0) high ≡ false → Bad ≡ decimal_of low high l
    unfolding digit_fits digits_after
    decimal_stop h e =
        by (is_digit (get_or l i 0))
        (λ d. decimal_above
        (let g : high < with_digit v (get_or l i 0) = leb-false _ _ (rw d at e) in
        let n : digits_after (with_digit v (get_or l i 0)) (drop (i + 1) l) ≡ digits_after 0 l = rw (opened l i h) at r.number in
        omega (arith, digits_grow (with_digit v (get_or l i 0)) (drop (i + 1) l))))
        (λ d. decimal_other (sym r.digits ∙ every_off is_digit l 0 i h d))

    -- all is read
    all_read : length l ≤ i → (every is_digit l ≡ true) × (digits_after 0 l ≡ v)
    unfolding digits_after
    all_read h = (sym r.digits ∙ every_end is_digit l i h, sym r.number ∙ rw (drop_of_length-le l h))

    -- a number below the range, once all is read
    pub decimal_low : length l ≤ i → v < low → Bad ≡ decimal_of low high l
    decimal_low h g = decimal_below (rw (all_read h).1 g)

    -- a number in the range, once all is read
    pub decimal_value : no_spare_zero l ≡ true → length l ≤ i → low ≤ v → v ≤ high → Value v ≡ decimal_of low high l
    unfolding decimal_of
    decimal_value z h a b = rw (z, (all_read h).0, (all_read h).1, le-leb _ _ a, le-leb _ _ b)
