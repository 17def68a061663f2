-- Whether a topic has a byte that no Publish may carry, byte by byte.
-- Assumes nothing.
use Rattle.std.proofs.Common.{◌≡◌, ℕ, ◌||◌, eqb, List, [], ◌∷◌, refl}
use Rattle.std.specs.List.{list_any}
use mathlib.Core.Bool.{or-false}
use Rattle.laws.proofs.Tests.{or_pairs}
use Rattle.slices.specs.Bytes.{has}
use Rattle.slices.proofs.bytes.WalkLaws.{has-cons}
use Rattle.topics.specs.Names.{bad_publish}

-- one byte of a topic
pub bad_one : (b : ℕ) → bad_publish (b ∷ []) ≡ (eqb b 0 || eqb b 43 || eqb b 35)
unfolding has
bad_one b = rw (has-cons 0 b [], has-cons 43 b [], has-cons 35 b [], or-false (eqb b 0), or-false (eqb b 43), or-false (eqb b 35))

-- a topic's first byte and its rest
bad_cons : (b : ℕ) (t : List ℕ) → bad_publish (b ∷ t) ≡ (bad_publish (b ∷ []) || bad_publish t)
bad_cons b t =
    rw (bad_one b, has-cons 0 b t, has-cons 43 b t, has-cons 35 b t)
    (or_pairs (eqb b 0) (eqb b 43) (eqb b 35) (has 0 t) (has 43 t) (has 35 t))

-- whether a topic has such a byte: `topic.iter().any(|b| is_bad_byte(*b))`
pub bad_any : (t : List ℕ) → bad_publish t ≡ list_any (λ b. bad_publish (b ∷ [])) t
unfolding has
bad_any [] = refl
bad_any (b ∷ t) = rw (bad_cons b t, bad_any t)
