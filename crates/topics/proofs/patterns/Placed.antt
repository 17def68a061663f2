-- Wildcards well placed, read byte by byte as `validate_mqtt_wildcard` reads them: `placed fresh p` where `fresh` says that a level begins here. For every
-- pattern this is `well_placed` of its levels. Assumes nothing.
use Rattle.std.proofs.Common.{◌≡◌, ℕ, Bool, true, false, not, ◌&&◌, eqb, List, [], ◌∷◌, refl}
use mathlib.Core.Bool.{and-false, or-false}
use Rattle.laws.specs.Lists.{none}
use Rattle.laws.proofs.Cases.{by}
use Rattle.slices.specs.Bytes.{same, has}
use Rattle.topics.specs.Levels.{first_level, rest_levels, levels, level_ends}
use Rattle.topics.specs.Patterns.{is_plain, well_placed}
use Rattle.topics.proofs.ByteLaws.{Sort, slash, hash, plus, other, sort, turned}

-- the wildcards of the rest of a pattern are well placed, where `fresh` says that a level begins with it
unfoldable pub placed : Bool → List ℕ → Bool
placed fresh [] = true
placed fresh (c ∷ p) =
    elim (eqb c 35) [
      | true ↦ fresh && none p
      | false ↦
          elim (eqb c 43) [
            | true ↦ fresh && level_ends p && placed false p
            | false ↦ placed (eqb c 47) p
          ]
    ]

-- the same by levels: mid-level the first of them can only go on plain
abbrev placed_at : Bool → List ℕ → Bool
placed_at true p = well_placed (levels p)
placed_at false p = is_plain (first_level p) && well_placed (rest_levels p)

-- after a `#` that begins a level nothing may follow
hash_last : (p : List ℕ) → none p ≡ ((same [] (first_level p) && none (rest_levels p)) && well_placed (rest_levels p))
unfolding first_level rest_levels same well_placed
hash_last [] = refl
hash_last (c ∷ p) = by (eqb c 47) (λ e. rw (e, first_level, rest_levels)) (λ e. rw (e, first_level))

-- after a `+` that begins a level the level ends
plus_ends : (p : List ℕ) → placed false p ≡ placed_at false p → (level_ends p && placed false p) ≡ (same [] (first_level p) && well_placed (rest_levels p))
unfolding placed first_level rest_levels same has well_placed
plus_ends [] ih = refl
plus_ends (c ∷ p) ih = by (eqb c 47) (λ e. rw (ih, e, first_level, rest_levels)) (λ e. rw (e, first_level))

at_levels : (fresh : Bool) (p : List ℕ) → placed fresh p ≡ placed_at fresh p
unfolding placed first_level rest_levels same has well_placed
at_levels true [] = refl
at_levels false [] = refl
at_levels fresh (c ∷ p) = cases fresh (sort c) (λ f. at_levels f p)
  where
    cases : {c : ℕ} (fresh : Bool) → Sort c → ((f : Bool) → placed f p ≡ placed_at f p) → placed fresh (c ∷ p) ≡ placed_at fresh (c ∷ p)
    cases true slash ih = ih true
    cases false slash ih = ih true
    cases true hash ih = hash_last p
    cases false hash ih = refl
    cases true plus ih = rw (and-false (not (has 35 (first_level p))), or-false (same [] (first_level p))) (plus_ends p (ih false))
    cases false plus ih = rw (and-false (not (has 35 (first_level p))))
    cases {c} true (other s h q) ih =
        let plain = or-false (is_plain (first_level p)) in
        rw (h, q, s, placed, first_level, rest_levels, h, q, has, turned c 43 q, turned c 35 h, plain, plain) (ih false)
    cases false (other s h q) ih = rw (h, q, s, placed, first_level, rest_levels, h, q, has) (ih false)

-- for every pattern
pub placed-levels : (p : List ℕ) → placed true p ≡ well_placed (levels p)
placed-levels p = at_levels true p
