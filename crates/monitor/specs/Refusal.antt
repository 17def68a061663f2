-- The reasons of document 01, "Numbers handed back", for which a call on the state is refused, each with its number.
-- Assumes nothing.
use Rattle.std.specs.Prelude.{ℕ}
use Rattle.monitor.specs.declared.refusal.Refusal.{Refusal}
use Rattle.monitor.specs.declared.refusal.Refusal.TheVariants.{TableFull, NotHeld, BadInput, Malformed, NotUtf8}

-- the number of a refusal
abbrev pub refusal_number : Refusal → ℕ
refusal_number TableFull = 6
refusal_number NotHeld = 7
refusal_number BadInput = 9
refusal_number Malformed = 10
refusal_number NotUtf8 = 36
