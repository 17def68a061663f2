-- Laws of `refusal`. Assumes nothing.
use mathlib.Core.Bool.{false, true≢false}
use mathlib.Core.Path.{◌≡◌, refl, ap}
use Rattle.std.proofs.Common.{ℕ, ◌≤◌, arith}
use Rattle.std.specs.Prelude.{Result, Ok, Err}
use Rattle.std.specs.Result.{is_err}
use Rattle.laws.specs.Refusals.{refusal}

-- an answer that is no error has no number
pub unrefused : {V E : Type 0} → (number : E → ℕ) (r : Result V E) → is_err r ≡ false → refusal number r ≡ 0
unrefused number (Ok v) p = refl
unrefused number (Err e) p = absurd (true≢false p)

-- where each error has a number of its own, and none has 0, the number tells the whole answer
pub refusal_once :
    {E : Type 0} → (number : E → ℕ) → ((e f : E) → number e ≡ number f → e ≡ f) → ((e : E) → 1 ≤ number e) →
    (r s : Result Unit E) → refusal number r ≡ refusal number s → r ≡ s
refusal_once number once real (Ok a) (Ok b) p = refl
refusal_once number once real (Ok a) (Err f) p = absurd (omega (arith, p, real f))
refusal_once number once real (Err e) (Ok b) p = absurd (omega (arith, p, real e))
refusal_once number once real (Err e) (Err f) p = ap Err (once e f p)
