-- Decimal text as a number. Document 01 ("The trace"): "Decimals have no spare zeros", and each number has its range. The value is a natural number, so no count of digits is too large to say
-- that it is out of range.
use Rattle.std.specs.Prelude.{ℕ, ◌+◌, ◌-◌, ◌*◌, Bool, true, false, cond, not, ◌&&◌, List, [], ◌∷◌, eqb, leb}
use Prim.Native.Char.{code}
use Rattle.laws.specs.Lists.{every}
use Rattle.lines.specs.declared.value.Number.{Number}
use Rattle.lines.specs.declared.value.Number.TheVariants.{Value, Bad}

-- `0` to `9`
unfoldable pub is_digit : ℕ → Bool
is_digit c = leb (code "0") c && leb c (code "9")

-- the number with one digit more
abbrev pub with_digit : ℕ → ℕ → ℕ
with_digit v c = v * 10 + (c - code "0")

-- `c` is a digit, and the number with it is at most `high`
unfoldable pub digit_fits : ℕ → ℕ → ℕ → Bool
digit_fits v c high = is_digit c && leb (with_digit v c) high

-- the number that digits spell after those that spell `v`
unfoldable pub digits_after : ℕ → List ℕ → ℕ
digits_after v [] = v
digits_after v (c ∷ cs) = digits_after (with_digit v c) cs

-- there is a first byte, and it is no spare zero: a `0` stands alone
unfoldable pub no_spare_zero : List ℕ → Bool
no_spare_zero [] = false
no_spare_zero (c ∷ []) = true
no_spare_zero (c ∷ (d ∷ l)) = not (eqb c (code "0"))

-- the number that `l` spells, where it is a decimal without spare zeros and lies in low..high
unfoldable pub decimal_of : ℕ → ℕ → List ℕ → Number
decimal_of low high l =
    cond (no_spare_zero l && every is_digit l && leb low (digits_after 0 l) && leb (digits_after 0 l) high)
    (Value (digits_after 0 l))
    Bad
