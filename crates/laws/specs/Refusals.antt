-- A refusal as the number that a person is told.
-- Assumes nothing.
use Rattle.std.specs.Prelude.{ℕ, Result, Ok, Err}

-- the number of an answer, by the numbers of its errors: 0 where nothing was refused
abbrev pub refusal : {V E : Type 0} → (E → ℕ) → Result V E → ℕ
refusal number (Ok v) = 0
refusal number (Err e) = number e
