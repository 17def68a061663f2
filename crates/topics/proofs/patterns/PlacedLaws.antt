-- The pattern test at what is left of a pattern at an index: one law for each way through the loop of `validate_mqtt_wildcard`, with the branches' facts as
-- premises. Assumes nothing.
use Rattle.std.proofs.Common.{◌≡◌, ℕ, ◌+◌, ◌<◌, ◌≤◌, Bool, true, false, ◌&&◌, eqb, List, [], ◌∷◌, length, get_or, drop, refl, arith, drop_of_length-le, eq-eqb, ne_eqb}
use Rattle.slices.proofs.bytes.WalkLaws.{opened, none_left}
use Rattle.topics.specs.Levels.{level_ends}
use Rattle.topics.specs.Patterns.{valid_wildcards}
use Rattle.topics.proofs.patterns.Placed.{placed, placed-levels}

-- the pattern test, from its start
pub valid_none : (p : List ℕ) → length p ≡ 0 → false ≡ valid_wildcards p
unfolding valid_wildcards
valid_none [] e = refl
valid_none (c ∷ p) e = absurd (omega arith)

pub valid_some : (p : List ℕ) → (length p ≡ 0 → ⊥) → placed true p ≡ valid_wildcards p
unfolding valid_wildcards
valid_some [] e = absurd (e refl)
valid_some (c ∷ p) e = placed-levels (c ∷ p)

pub placed_end : (f : Bool) (p : List ℕ) (i : ℕ) → length p ≤ i → placed f (drop i p) ≡ true
unfolding placed
placed_end f p i l = rw (drop_of_length-le p l)

module _ (p : List ℕ) (f : Bool) (i : ℕ) (l : i < length p) where
  pub hash_fresh : f ≡ true → get_or p i 0 ≡ 35 → placed f (drop i p) ≡ eqb (i + 1) (length p)
  unfolding placed
  hash_fresh b e = rw (opened p i l, eq-eqb _ _ e, placed, b) (none_left p (i + 1) (omega arith))

  pub hash_mid : f ≡ false → get_or p i 0 ≡ 35 → placed f (drop i p) ≡ f
  unfolding placed
  hash_mid b e = rw (opened p i l, eq-eqb _ _ e, placed, b)

  module _ (h : get_or p i 0 ≡ 35 → ⊥) where
    module _ {t : Bool} (alone : t ≡ (f && level_ends (drop (i + 1) p))) (e : get_or p i 0 ≡ 43) where
      pub plus_off : t ≡ false → placed f (drop i p) ≡ false
      unfolding placed
      plus_off n = rw (opened p i l, ne_eqb _ _ h, eq-eqb _ _ e, placed, ← alone, n)

      pub plus_on : t ≡ true → placed f (drop i p) ≡ placed (eqb (get_or p i 0) 47) (drop (i + 1) p)
      unfolding placed
      plus_on y = rw (opened p i l, ne_eqb _ _ h, eq-eqb _ _ e, placed, ← alone, y) (rw e)

    pub placed_on : (get_or p i 0 ≡ 43 → ⊥) → placed f (drop i p) ≡ placed (eqb (get_or p i 0) 47) (drop (i + 1) p)
    unfolding placed
    placed_on q = rw (opened p i l, ne_eqb _ _ h, ne_eqb _ _ q, placed)
