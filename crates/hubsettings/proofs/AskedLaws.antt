-- Two decimals with a comma between them, as the code reads them. Assumes nothing.
use Prim.Native.Nat.{ℕ, ◌+◌, ◌-◌}
use mathlib.Core.Path.{◌≡◌}
use mathlib.Core.List.{List}
use borrow.Author.Tests.{eq-eqb, ne_eqb}
use lib.ListN.{length, take, drop}
use Rattle.laws.proofs.Lists.{tail_whole}
use Rattle.slices.specs.Bytes.{find_byte}
use Rattle.lines.specs.ReadDecimal.{decimal_of}
use Rattle.lines.specs.declared.value.Number.{Number}
use Rattle.hubsettings.specs.Asked.{asked_pair, asked_numbers}
use Rattle.hubsettings.specs.declared.asked.Asked.{Asked}
use Rattle.hubsettings.specs.declared.asked.Asked.TheVariants.{Unknown}

module _ (s : List ℕ) {comma : ℕ} (q : comma ≡ find_byte 44 s 0) where
  pub numbers_none : comma ≡ length s → Unknown ≡ asked_numbers s
  unfolding asked_numbers
  numbers_none e = rw (← q, eq-eqb comma (length s) e)

  pub numbers_both : {l e : Number} {r : Asked} → (comma ≡ length s → ⊥) → l ≡ decimal_of 0 9999999999 (take comma s)
      → e ≡ decimal_of 0 9999999999 (take (length s - (comma + 1)) (drop (comma + 1) s)) → r ≡ asked_pair l e → r ≡ asked_numbers s
  unfolding asked_numbers
  numbers_both z later earlier both = rw (← q, ne_eqb comma (length s) z, ← tail_whole s (comma + 1), ← later, ← earlier) both
