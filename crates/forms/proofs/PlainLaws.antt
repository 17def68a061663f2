-- Keys and values have no LF in them, so that a line ends behind its value: decimals, hex, and words of a list that has none. And a line begins with its key. Assumes nothing.
use Prim.Native.Nat.{ℕ, zero, suc, ◌+◌, ◌≤◌, ◌<◌}
use mathlib.Core.Path.{◌≡◌, refl, ap}
use mathlib.Core.Bool.{Bool, true, false, not, ◌&&◌}
use mathlib.Core.List.{List, [], ◌∷◌, ◌++◌}
use native.Mathlib.Omega.{arith}
use lib.Dec.{eqb, leb}
use lib.ListN.{length, drop, get_or}
use borrow.Author.Tests.{eq-eqb, ne_eqb, eqb-true, leb-true, not-true}
use Rattle.laws.specs.Lists.{every}
use Rattle.slices.specs.Bytes.{begins, to_byte}
use Rattle.lines.specs.Decimal.{decimal}
use Rattle.lines.specs.Hex.{hex_text}
use Rattle.lines.specs.ReadDecimal.{is_digit, digits_after, no_spare_zero, decimal_of}
use Rattle.lines.specs.ReadHex.{is_hex}
use Rattle.lines.specs.Word.{first_word, rest_words, word_text}
use Rattle.laws.proofs.Cases.{by}
use Rattle.laws.proofs.Tests.{never, both}
use Rattle.laws.proofs.Every.{every_both}
use Rattle.lines.proofs.DecimalRound.{decimal_read}
use Rattle.lines.proofs.HexRound.{hex_read}
use Rattle.lines.proofs.value.HexLaws.{hex_taken, hex_kinds}
use Rattle.lines.specs.declared.value.Number.TheVariants.{Value, Bad}

-- not an LF
abbrev pub in_line : ℕ → Bool
in_line c = not (eqb c 10)

-- a stronger test of every byte
pub every_weak : (p q : ℕ → Bool) → ((c : ℕ) → p c ≡ true → q c ≡ true) → (l : List ℕ) → every p l ≡ true → every q l ≡ true
unfolding every
every_weak p q h [] e = refl
every_weak p q h (c ∷ l) e =
    let b = every_both p c l e in
    rw (h c b.0, every) (every_weak p q h l b.1)

-- the first LF after bytes that are none
pub to_end : (t u : List ℕ) → every in_line t ≡ true → to_byte 10 (t ++ (10 ∷ u)) ≡ length t
unfolding to_byte
to_end [] u e = refl
to_end (c ∷ t) u e =
    let b = every_both in_line c t e in
    let n : eqb c 10 ≡ false = not-true _ b.0 in
    rw (n, to_byte, to_end t u b.1)

-- a key is what a text begins with
pub begins_join : (key v : List ℕ) → begins key (key ++ v) ≡ true
unfolding begins
begins_join [] v = refl
begins_join (k ∷ key) v = rw (lib_eq k, begins) (begins_join key v)
  where
    lib_eq : (k : ℕ) → eqb k k ≡ true
    lib_eq k = eq-eqb k k refl

-- and what begins with a key is the key and the rest
pub begins_split : (key l : List ℕ) → begins key l ≡ true → l ≡ key ++ drop (length key) l
unfolding begins
begins_split [] l e = refl
begins_split (k ∷ key) [] e = never e
begins_split (k ∷ key) (c ∷ l) e =
    by (eqb k c)
    (λ t. let q : k ≡ c = eqb-true k c t in rw (← q) (ap (λ (m : List ℕ). k ∷ m) (begins_split key l (rw (t, begins) at e))))
    (λ t. never (rw (t, begins) at e))

-- decimals, hex and words of a list without LF have none
digit_plain : (c : ℕ) → is_digit c ≡ true → in_line c ≡ true
unfolding is_digit
digit_plain c e =
    let h = both _ _ e in
    let g : 48 ≤ c = leb-true _ _ h.0 in
    rw (ne_eqb c 10 (λ q. omega arith))

-- what is read as a number is digits
value_digits : (low high : ℕ) (l : List ℕ) (n : ℕ) → decimal_of low high l ≡ Value n → every is_digit l ≡ true
unfolding decimal_of
value_digits low high l n e =
    by (no_spare_zero l && every is_digit l && leb low (digits_after 0 l) && leb (digits_after 0 l) high)
    (λ t.
    let c = both (no_spare_zero l && every is_digit l && leb low (digits_after 0 l)) (leb (digits_after 0 l) high) t in
    let b = both (no_spare_zero l && every is_digit l) (leb low (digits_after 0 l)) c.0 in
    (both (no_spare_zero l) (every is_digit l) b.0).1)
    (λ t. absurd (let q : Bad ≡ Value n = rw t at e in let z : ◌≡◌ {A = ℕ} 0 1 = cc in omega arith))

pub decimal_plain : (n : ℕ) → every in_line (decimal n) ≡ true
decimal_plain n = every_weak is_digit in_line digit_plain (decimal n) (value_digits 0 n (decimal n) n (decimal_read 0 n n (omega arith) (omega arith)))

-- a hex digit is none
hex_in : (c : ℕ) → is_hex c ≡ true → in_line c ≡ true
hex_in c e = hex_kinds c e (λ a b. rw (ne_eqb c 10 (λ q. omega arith))) (λ a b. rw (ne_eqb c 10 (λ q. omega arith)))

pub hex_plain : (s : List ℕ) → ((i : ℕ) → get_or s i 0 < 256) → every in_line (hex_text s) ≡ true
hex_plain s h = every_weak is_hex in_line hex_in (hex_text s) (hex_taken (length s) (hex_text s) (hex_read (length s) s h (omega arith))).1

-- a word of a list passes a test that all bytes of the list pass
first_plain : (p : ℕ → Bool) (l : List ℕ) → every p l ≡ true → every p (first_word l) ≡ true
unfolding first_word every
first_plain p [] e = refl
first_plain p (c ∷ l) e =
    let b = every_both p c l e in
    let t : p c ≡ true = b.0 in
    by (eqb c 124) (λ z. rw (z, first_word)) (λ z. rw (z, first_word, t, every) (first_plain p l b.1))

rest_plain : (p : ℕ → Bool) (l : List ℕ) (k : ℕ) → every p l ≡ true → every p (get_or (rest_words l) k []) ≡ true
unfolding rest_words every
rest_plain p [] k e = refl
rest_plain p (c ∷ l) k e =
    let b = every_both p c l e in
    by (eqb c 124) (λ z. rw (z, rest_words) (at_place k (λ j. rest_plain p l j b.1))) (λ z. rw (z, rest_words) (rest_plain p l k b.1))
  where
    at_place : (k : ℕ) → ((j : ℕ) → every p (get_or (rest_words l) j []) ≡ true) → every p (get_or (first_word l ∷ rest_words l) k []) ≡ true
    at_place zero h = first_plain p l (every_both p c l e).1
    at_place (suc k) h = h k

pub word_plain : (ws : List ℕ) (k : ℕ) → every in_line ws ≡ true → every in_line (word_text ws k) ≡ true
unfolding word_text
word_plain ws zero e = first_plain in_line ws e
word_plain ws (suc k) e = rest_plain in_line ws k e
