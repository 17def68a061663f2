-- Laws of tests: what a false one tells, and tests joined by "and" or by "or". Assumes nothing.
use mathlib.Core.Bool.{Bool, true, false, not, ◌&&◌, ◌||◌, and_assoc, or-true, false≢true}
use mathlib.Core.Path.{◌≡◌, refl, sym, ap, ◌∙◌}

-- what is false is not true
pub never : {P : Type 0} → false ≡ true → P
never e = absurd (false≢true e)

-- two tests that hold together hold each
pub both : (a b : Bool) → a && b ≡ true → (a ≡ true) × (b ≡ true)
both true b e = (refl, e)
both false b e = never e

-- of two tests of which one holds, the cases
pub either : {P : Type 0} (a b : Bool) → a || b ≡ true → (a ≡ true → P) → (b ≡ true → P) → P
either true b e f g = f refl
either false b e f g = g e

-- two tests of which none holds
pub neither : (a b : Bool) → a || b ≡ false → (a ≡ false) × (b ≡ false)
neither true b e = never (sym e)
neither false b e = (refl, e)

-- two tests that hold alike
pub alike : (a b : Bool) → (a ≡ true → b ≡ true) → (b ≡ true → a ≡ true) → a ≡ b
alike true b f g = sym (f refl)
alike false true f g = g refl
alike false false f g = refl

-- a test that cannot hold
pub fails : (t : Bool) → (t ≡ true → ⊥) → t ≡ false
fails true f = absurd (f refl)
fails false f = refl

-- a test behind a guard, as code asks it: where the guard is off it fails
pub guard_off : (g test : Bool) → not g ≡ true → false ≡ (g && test)
guard_off true test e = never e
guard_off false test e = refl

-- where it is on the test answers
pub guard_on : (g test : Bool) {answer : Bool} → not g ≡ false → answer ≡ test → answer ≡ (g && test)
guard_on true test e a = a
guard_on false test e a = never (sym e)

-- a test in two steps behind a guard, as code asks it: `n` is what the guard and the first step answered together, `b` what the second did
module _ (g first rest : Bool) {n : Bool} (e : n ≡ g && first) where
  -- where the first step fails all of it fails
  pub step_fails : n ≡ false → g && (first && rest) ≡ false
  step_fails f = sym (and_assoc g first rest) ∙ ap (λ (t : Bool). t && rest) (sym e ∙ f)

  -- where it passes the second answers
  pub step_passes : n ≡ true → {b answer : Bool} → b ≡ rest → b ≡ answer → g && (first && rest) ≡ answer
  step_passes t p a = sym (and_assoc g first rest) ∙ ap (λ (t : Bool). t && rest) (sym e ∙ t) ∙ sym p ∙ a

-- three alternatives, each of a first and a rest: some first, or some rest
pub or_pairs : (a b c x y z : Bool) → (a || x) || (b || y) || (c || z) ≡ (a || b || c) || (x || y || z)
or_pairs true b c x y z = refl
or_pairs false b c true y z = sym (or-true (b || c))
or_pairs false true c false y z = refl
or_pairs false false c false true z = sym (or-true c)
or_pairs false false c false false z = refl
