-- Levels split and join: joined by slashes the levels of a text are the text again, and no level holds a slash. So `levels` is the cut that it is meant to be; no other proof asks for this.
-- Assumes nothing.
use Rattle.std.proofs.Common.{◌≡◌, ℕ, false, eqb, List, [], ◌∷◌, refl, ⊎_elim, eqb-true}
use mathlib.Core.List.Memᴰ
use mathlib.Core.List.{Memᴰ}
use Rattle.laws.proofs.Cases.{by}
use Rattle.slices.specs.Bytes.{has}
use Rattle.topics.specs.Levels.{first_level, rest_levels, levels, join_levels}

-- a byte before the first level
join_cons : (c : ℕ) (l : List ℕ) (ls : List (List ℕ)) → join_levels ((c ∷ l) ∷ ls) ≡ c ∷ join_levels (l ∷ ls)
unfolding join_levels
join_cons c l [] = refl
join_cons c l (m ∷ ms) = refl

-- a text is its levels joined
joined : (s : List ℕ) → join_levels (levels s) ≡ s
unfolding join_levels first_level rest_levels
joined [] = refl
joined (c ∷ s) =
    by (eqb c 47)
    (λ e. rw (eqb-true c 47 e, joined s))
    (λ e. rw (e, first_level, rest_levels, join_cons c (first_level s) (rest_levels s), joined s))

-- no level holds a slash
first_no_slash : (s : List ℕ) → has 47 (first_level s) ≡ false
unfolding first_level has
first_no_slash [] = refl
first_no_slash (c ∷ s) = by (eqb c 47) (λ e. rw (e, first_level)) (λ e. rw (e, first_level, e, has) (first_no_slash s))

first_or_rest : (s l : List ℕ) → (Memᴰ l (rest_levels s) → has 47 l ≡ false) → Memᴰ l (levels s) → has 47 l ≡ false
first_or_rest s l f m = ⊎_elim (λ q. rw q (first_no_slash s)) f (Memᴰ.cases_cons m)

rest_no_slash : (s l : List ℕ) → Memᴰ l (rest_levels s) → has 47 l ≡ false
unfolding rest_levels
rest_no_slash [] l m = absurd (Memᴰ.not-nil m)
rest_no_slash (c ∷ s) l m =
    by (eqb c 47)
    (λ e. first_or_rest s l (λ r. rest_no_slash s l r) (rw (e, rest_levels) at m))
    (λ e. rest_no_slash s l (rw (e, rest_levels) at m))

pub level_no_slash : (s l : List ℕ) → Memᴰ l (levels s) → has 47 l ≡ false
level_no_slash s l m = first_or_rest s l (λ r. rest_no_slash s l r) m
