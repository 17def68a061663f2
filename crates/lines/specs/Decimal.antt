-- A number as decimal text. Document 01 ("The trace"): "Decimals have no spare zeros".
use Rattle.std.specs.Prelude.{ℕ, zero, suc, ◌+◌, ◌/◌, ◌%◌, cond, List, [], ◌∷◌, ◌++◌, ltb}

-- the digits of `n`, where `k` and one more are enough of them: a number below 10 is one digit, any other is the digits of its tenth and then its last
unfoldable pub decimal_in : ℕ → ℕ → List ℕ
decimal_in zero n = (48 + n) ∷ []
decimal_in (suc k) n = cond (ltb n 10) ((48 + n) ∷ []) (decimal_in k (n / 10) ++ ((48 + n % 10) ∷ []))

-- the digits of `n`, of which there are at most `n` and one more
unfoldable pub decimal : ℕ → List ℕ
decimal n = decimal_in n n
