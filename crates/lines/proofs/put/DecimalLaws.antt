-- How decimal text goes by tenths: one digit below 10 (`decimal_one`), else the text of the tenth and one digit more (`decimal_more`); and how long it is, from 1 digit to the 20 of a 64-bit
-- number. `SetOut` is how the writer sets digits out from the last on: a digit more (`digits_again`), for which there is a place (`digits_left`), and the first one (`digits_done`). Assumes nothing.
use Prim.Native.Nat.{ℕ, zero, suc, ◌+◌, ◌-◌, ◌/◌, ◌%◌, ◌^◌, ◌≤◌, ◌<◌}
use mathlib.Core.Path.{◌≡◌, refl, sym, ap, ◌∙◌}
use mathlib.Core.List.{List, [], ◌∷◌, ◌++◌}
use native.Mathlib.Omega.{arith}
use native.Mathlib.Nat.{pow-succ'}
use native.Mathlib.Numerals.{add-one}
use borrow.Author.Tests.{lt-ltb, le-ltb}
use lib.ListN.{length, take, drop, set, length-append, length-drop, length-set}
use lib.Seq.{drop-cons, lt-length-set, get_or-set_same, drop-set-lt, append_snoc, take_all}
use Rattle.laws.proofs.Cases.{by_le}
use Rattle.lines.specs.Decimal.{decimal_in, decimal}

-- any count that is enough gives the same digits
enough : (k j n : ℕ) → n ≤ k → n ≤ j → decimal_in k n ≡ decimal_in j n
unfolding decimal_in
enough zero zero n h g = refl
enough zero (suc j) n h g = rw (lt-ltb n 10 (omega arith))
enough (suc k) zero n h g = rw (lt-ltb n 10 (omega arith))
enough (suc k) (suc j) n h g =
    by_le 10 n
    (λ m. rw (le-ltb n 10 m, enough k j (n / 10) (omega arith) (omega arith)))
    (λ l. rw (lt-ltb n 10 l))

pub decimal_one : (n : ℕ) → n < 10 → decimal n ≡ (48 + n) ∷ []
unfolding decimal decimal_in
decimal_one zero h = refl
decimal_one (suc n) h = rw (lt-ltb (suc n) 10 h)

pub decimal_more : (n : ℕ) → 10 ≤ n → decimal n ≡ decimal (n / 10) ++ ((48 + n % 10) ∷ [])
unfolding decimal decimal_in
decimal_more zero h = absurd (omega arith)
decimal_more (suc n) h = rw (le-ltb (suc n) 10 h, enough n (suc n / 10) (suc n / 10) (omega arith) (omega arith))

pub decimal_first : (n : ℕ) → n ≤ 9 → length (decimal n) ≡ 1
decimal_first n h = rw (decimal_one n (omega arith))

pub decimal_tenth : (n : ℕ) → 9 < n → length (decimal n) ≡ length (decimal (n / 10)) + 1
decimal_tenth n h = rw (decimal_more n (omega arith), length-append)

pub decimal_some : (n : ℕ) → 1 ≤ length (decimal n)
decimal_some n =
    by_le 10 n
    (λ m. rw (decimal_more n m, length-append) (omega arith))
    (λ l. rw (decimal_one n l) (omega arith))

pub decimal_short : (k n : ℕ) → n < 10 ^ suc k → length (decimal n) ≤ suc k
decimal_short zero n h = rw (decimal_one n h) (omega arith)
decimal_short (suc k) n h =
    by_le 10 n
    (λ m. rw (decimal_more n m, length-append) (omega (arith, decimal_short k (n / 10) (omega (arith, pow-succ' 10 (suc k))))))
    (λ l. rw (decimal_one n l) (omega arith))

pub decimal_20 : (n : ℕ) → n < 2 ^ 64 → length (decimal n) ≤ 20
decimal_20 n h = decimal_short 19 n (omega arith)

drop-set : (l : List ℕ) (i b : ℕ) → i < length l → drop i (set l i b) ≡ b ∷ drop (i + 1) l
drop-set l i b h = rw (add-one, drop-cons (set l i b) i 0 (lt-length-set l i b h), get_or-set_same l i b 0 h, drop-set-lt (suc i) l i b (omega arith))

-- the digits of `n` are being set out in `l`, the last at place 19: those of `rest` are still missing, and the last of these goes to place `i`
pub record SetOut (l : List ℕ) (n rest i : ℕ) : Type 0 where
  pub long : length l ≡ 20
  pub place : i < 20
  pub text : decimal rest ++ drop (i + 1) l ≡ decimal n

module _ {l : List ℕ} {n rest i : ℕ} (d : SetOut l n rest i) where
  pub digits_left : n < 2 ^ 64 → 9 < rest → 0 < i
  digits_left b m = omega (arith, decimal_20 n b, decimal_some (rest / 10), decimal_tenth rest m, simp (length-append, length-drop) at (ap length d.text))

  pub digits_again : n < 2 ^ 64 → 9 < rest → SetOut (set l i (48 + rest % 10)) n (rest / 10) (i - 1)
  digits_again b m =
      let z : 0 < i = digits_left b m in
      let e : i - 1 + 1 ≡ i = omega arith in
      let k : i < length l = omega arith in
      record {
        long = simp length-set d.long;
        place = omega arith;
        text = rw (e, drop-set l i (48 + rest % 10) k) (sym (append_snoc (decimal (rest / 10)) (48 + rest % 10) (drop (i + 1) l)) ∙ (rw (decimal_more rest m) at d.text));
      }

  pub digits_done : rest ≤ 9 → take (20 - i) (drop i (set l i (48 + rest))) ≡ decimal n
  digits_done m =
      let k : i < length l = omega arith in
      rw (drop-set l i (48 + rest) k, take_all (20 - i) ((48 + rest) ∷ drop (i + 1) l) (simp length-drop (omega arith))) (rw (decimal_one rest (omega arith)) at d.text)
