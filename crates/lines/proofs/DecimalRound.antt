-- Decimals there and back (document 01, "The trace": no spare zeros, so each number has one text): what is written of a number is read as it, and what is read as a number is what is written of it.
-- Assumes nothing.
use Prim.Native.Nat.{ℕ, zero, suc, ◌+◌, ◌/◌, ◌%◌, ◌≤◌, ◌<◌}
use mathlib.Core.Path.{◌≡◌, refl, sym, ap, ◌∙◌}
use mathlib.Core.Bool.{true, false, ◌&&◌}
use mathlib.Core.List.{List, [], ◌∷◌, ◌++◌, append-nil}
use native.Mathlib.Omega.{arith}
use lib.Dec.{eqb, leb}
use lib.ListN.{get_or, get_or-append}
use lib.Seq.{append_snoc}
use borrow.Author.Tests.{le-leb, leb-true, ne_eqb, eqb-false, not-true}
use Rattle.laws.specs.Lists.{every}
use Rattle.laws.proofs.Cases.{by, by_le}
use Rattle.laws.proofs.Tests.{never, both}
use Rattle.laws.proofs.Every.{every_both, every_join}
use Rattle.lines.specs.declared.value.Number.TheVariants.{Value, Bad}
use Rattle.lines.specs.Decimal.{decimal}
use Rattle.lines.specs.ReadDecimal.{is_digit, with_digit, digits_after, no_spare_zero, decimal_of}
use Rattle.lines.proofs.put.DecimalLaws.{decimal_one, decimal_more, decimal_tenth, decimal_some}
use Rattle.lines.proofs.value.DecimalLaws.{spare_more}

-- a digit is 48 to 57
digit_range : (c : ℕ) → is_digit c ≡ true → (48 ≤ c) × (c ≤ 57)
unfolding is_digit
digit_range c e = let h = both _ _ e in (leb-true _ _ h.0, leb-true _ _ h.1)

-- a number below 10 has a digit
digit_of : (n : ℕ) → n < 10 → is_digit (48 + n) ≡ true
unfolding is_digit
digit_of n h = rw (le-leb 48 (48 + n) (omega arith), le-leb (48 + n) 57 (omega arith))

-- one digit more, at the end
digits_last : (v : ℕ) (l : List ℕ) (c : ℕ) → digits_after v (l ++ (c ∷ [])) ≡ with_digit (digits_after v l) c
unfolding digits_after
digits_last v [] c = refl
digits_last v (d ∷ l) c = digits_last (with_digit v d) l c

-- what the text of a number spells: digits, the number itself, and no 0 in front of another number than 0
record Spells (n : ℕ) : Type 0 where
  digits : every is_digit (decimal n) ≡ true
  number : digits_after 0 (decimal n) ≡ n
  first : 0 < n → get_or (decimal n) 0 0 ≡ 48 → ⊥

spells_one : (n : ℕ) → n < 10 → Spells n
unfolding every digits_after
spells_one n h =
    let d : is_digit (48 + n) ≡ true = digit_of n h in
    record {
      digits = rw (decimal_one n h, d, every);
      number = rw (decimal_one n h) (omega arith);
      first = λ z. rw (decimal_one n h) (λ e. omega arith);
    }

spells_more : (n : ℕ) → 10 ≤ n → Spells (n / 10) → Spells n
unfolding every
spells_more n m s =
    let q : 0 < n / 10 = omega arith in
    record {
      digits = rw (decimal_more n m) (every_join is_digit (decimal (n / 10)) ((48 + n % 10) ∷ []) s.digits (rw (digit_of (n % 10) (omega arith))));
      number = rw (decimal_more n m, digits_last, s.number) (omega arith);
      first = λ z. rw (decimal_more n m, get_or-append (decimal (n / 10)) ((48 + n % 10) ∷ []) 0 0 (decimal_some (n / 10))) (s.first q);
    }

-- every number's text does
spells : (k n : ℕ) → n ≤ k → Spells n
spells zero n h = spells_one n (omega arith)
spells (suc k) n h =
    by_le 10 n (λ m. spells_more n m (spells k (n / 10) (omega arith))) (λ l. spells_one n l)

-- a number's text has no spare zero
no_spare : (n : ℕ) → no_spare_zero (decimal n) ≡ true
unfolding no_spare_zero
no_spare n =
    by_le 10 n
    (λ m.
    let f : eqb (get_or (decimal n) 0 0) 48 ≡ false = ne_eqb _ _ ((spells n n (omega arith)).first (omega arith)) in
    let t = decimal_tenth n (omega arith) in
    let o = decimal_some (n / 10) in
    sym (spare_more (decimal n) (λ z. omega arith) (λ z. omega arith)) ∙ rw f)
    (λ l. rw (decimal_one n l))

-- what is written of a number is read as it
pub decimal_read : (low high n : ℕ) → low ≤ n → n ≤ high → decimal_of low high (decimal n) ≡ Value n
unfolding decimal_of
decimal_read low high n a b =
    let s = spells n n (omega arith) in
    rw (no_spare n, s.digits, s.number, le-leb low n a, le-leb n high b)

-- what is read as a number: a decimal without spare zeros that spells it, in the range
record Taken (low high : ℕ) (l : List ℕ) (n : ℕ) : Type 0 where
  plain : no_spare_zero l ≡ true
  digits : every is_digit l ≡ true
  number : digits_after 0 l ≡ n
  above : low ≤ n
  below : n ≤ high

taken : (low high : ℕ) (l : List ℕ) (n : ℕ) → decimal_of low high l ≡ Value n → Taken low high l n
unfolding decimal_of
taken low high l n e =
    by (no_spare_zero l && every is_digit l && leb low (digits_after 0 l) && leb (digits_after 0 l) high)
    (λ t.
    let q : Value (digits_after 0 l) ≡ Value n = rw t at e in
    let i : digits_after 0 l ≡ n = cc in
    let c = both _ _ t in
    let b = both _ _ c.0 in
    let a = both _ _ b.0 in
    let low_le : low ≤ digits_after 0 l = leb-true _ _ b.1 in
    let le_high : digits_after 0 l ≤ high = leb-true _ _ c.1 in
    record { plain = a.0; digits = a.1; number = i; above = omega arith; below = omega arith })
    (λ t. absurd (let q : Bad ≡ Value n = rw t at e in let z : ◌≡◌ {A = ℕ} 0 1 = cc in omega arith))

-- digits after a number that is not 0: their text goes after its text
goes_on : (v : ℕ) (l : List ℕ) → 0 < v → every is_digit l ≡ true → decimal (digits_after v l) ≡ decimal v ++ l
unfolding digits_after
goes_on v [] h e = sym (append-nil (decimal v))
goes_on v (c ∷ l) h e =
    let b = every_both is_digit c l e in
    let r = digit_range c b.0 in
    let q : with_digit v c / 10 ≡ v = omega arith in
    let m : 48 + with_digit v c % 10 ≡ c = omega arith in
    goes_on (with_digit v c) l (omega arith) b.1 ∙ (rw (decimal_more (with_digit v c) (omega arith), q, m) (append_snoc (decimal v) c l))

-- a decimal without spare zeros is the text of the number that it spells
spelled : (l : List ℕ) → no_spare_zero l ≡ true → every is_digit l ≡ true → l ≡ decimal (digits_after 0 l)
unfolding no_spare_zero digits_after
spelled [] p e = never p
spelled (c ∷ []) p e =
    let r = digit_range c (every_both is_digit c [] e).0 in
    let q : 48 + with_digit 0 c ≡ c = omega arith in
    rw (decimal_one (with_digit 0 c) (omega arith), q)
spelled (c ∷ (d ∷ l)) p e =
    let b = every_both is_digit c (d ∷ l) e in
    let r = digit_range c b.0 in
    let z : c ≡ 48 → ⊥ = eqb-false _ _ (not-true _ p) in
    let q : 48 + with_digit 0 c ≡ c = omega arith in
    sym (goes_on (with_digit 0 c) (d ∷ l) (omega (arith, z)) b.1 ∙ rw (decimal_one (with_digit 0 c) (omega arith), q))

-- what is read as a number is what is written of it
pub decimal_unique : (low high : ℕ) (l : List ℕ) (n : ℕ) → decimal_of low high l ≡ Value n → l ≡ decimal n
decimal_unique low high l n e =
    let t = taken low high l n e in
    spelled l t.plain t.digits ∙ ap decimal t.number

-- and the number lies in the range
pub decimal_range : (low high : ℕ) (l : List ℕ) (n : ℕ) → decimal_of low high l ≡ Value n → (low ≤ n) × (n ≤ high)
decimal_range low high l n e = let t = taken low high l n e in (t.above, t.below)
