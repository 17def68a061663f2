-- The four sorts of a byte: slash, the two wildcards, any other. Assumes nothing.
use Rattle.std.proofs.Common.{◌≡◌, ℕ, false, eqb, sym, ne_eqb, eqb-true}
use borrow.Author.Tests.{eqb-false}
use Rattle.laws.proofs.Cases.{by}

-- what a byte is to a pattern
pub data Sort : ℕ → Type 0 where
  slash : Sort 47
  hash : Sort 35
  plus : Sort 43
  other : {c : ℕ} → eqb c 47 ≡ false → eqb c 35 ≡ false → eqb c 43 ≡ false → Sort c

pub sort : (c : ℕ) → Sort c
sort c =
    by (eqb c 47)
    (λ s. rw (eqb-true c 47 s) slash)
    (λ s. by (eqb c 35) (λ h. rw (eqb-true c 35 h) hash) (λ h. by (eqb c 43) (λ p. rw (eqb-true c 43 p) plus) (λ p. other s h p)))

-- a test that fails, the other way round
pub turned : (a b : ℕ) → eqb a b ≡ false → eqb b a ≡ false
turned a b e = ne_eqb b a (λ q. eqb-false a b e (sym q))
