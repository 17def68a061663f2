-- The test of a held identity in two steps, first the numbers and whether the record is live, then the first bytes: together they are the whole test. `Id::is_of` and
-- `Id::is_removed_by` are made of these two steps (docs/DECISIONS.md, 30); docs/landings/C-14.md speaks of these laws. Assumes nothing.
use mathlib.Core.Bool.{Bool, true, false, ◌&&◌}
use mathlib.Core.Path.{◌≡◌}
use lib.Dec.{eqb}
use lib.ListN.{take}
use Rattle.laws.proofs.Tests.{step_fails, step_passes}
use Rattle.slices.specs.Bytes.{same}
use Rattle.tables.specs.Identity.{is_of, is_removed, compared}
use Rattle.tables.specs.declared.identity.Id.{Id}

module _ (id held : Id) where
  abbrev numbers : Bool
  numbers = eqb held.hash id.hash && eqb held.hash2 id.hash2 && eqb held.len id.len

  abbrev all_numbers : Bool
  all_numbers = numbers && eqb held.suffix_hash id.suffix_hash

  abbrev first_bytes : Bool
  first_bytes = same (take (compared held id) held.prefix) (take (compared held id) id.prefix)

  abbrev prefixes : Bool
  prefixes = same held.prefix id.prefix

  -- `n` is what the code learnt of the numbers, `b` of the bytes
  module _ (live : Bool) {n : Bool} where
    -- a record with other numbers is not that of a message's topic
    pub not_of : n ≡ live && all_numbers → n ≡ false → live && is_of id held ≡ false
    unfolding is_of
    not_of e = step_fails live all_numbers first_bytes e

    -- of one with the same numbers its first bytes say whether it is
    pub of_bytes : n ≡ live && all_numbers → n ≡ true → {b answer : Bool} → b ≡ first_bytes → b ≡ answer → live && is_of id held ≡ answer
    unfolding is_of
    of_bytes e = step_passes live all_numbers first_bytes e

    -- a record with another length or hash is not one that a removal means
    pub not_removed : n ≡ live && numbers → n ≡ false → live && is_removed id held ≡ false
    unfolding is_removed
    not_removed e = step_fails live numbers prefixes e

    -- of one with the same its prefix says whether it is
    pub removed_prefix : n ≡ live && numbers → n ≡ true → {b answer : Bool} → b ≡ prefixes → b ≡ answer → live && is_removed id held ≡ answer
    unfolding is_removed
    removed_prefix e = step_passes live numbers prefixes e
