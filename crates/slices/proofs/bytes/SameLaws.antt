-- Laws of `same`, the test of equal lists of bytes: it answers true for equal lists and for no others, in either order.
-- Assumes nothing.
use mathlib.Core.Bool.{true, false≢true}
use mathlib.Core.List.{List, [], ◌∷◌}
use mathlib.Core.Path.{◌≡◌, refl, sym}
use Prim.Native.Nat.{ℕ}
use lib.Dec.{eqb}
use borrow.Author.Tests.{eqb-true, eq-eqb}
use Rattle.laws.proofs.Tests.{both, alike}
use Rattle.slices.specs.Bytes.{same}

-- the test of two bytes, in either order
eqb_sym : (x y : ℕ) → eqb x y ≡ eqb y x
eqb_sym x y =
    alike (eqb x y) (eqb y x) (λ e. eq-eqb y x (sym (eqb-true x y e))) (λ e. eq-eqb x y (sym (eqb-true y x e)))

-- lists that the test takes are equal
pub same-true : (a b : List ℕ) → same a b ≡ true → a ≡ b
unfolding same
same-true [] [] e = refl
same-true [] (y ∷ b) e = absurd (false≢true e)
same-true (x ∷ a) [] e = absurd (false≢true e)
same-true (x ∷ a) (y ∷ b) e =
    let h = both (eqb x y) (same a b) e in cc (eqb-true x y h.0, same-true a b h.1)

-- every list is taken beside itself
pub same_refl : (a : List ℕ) → same a a ≡ true
unfolding same
same_refl [] = refl
same_refl (x ∷ a) = rw (eq-eqb x x refl) (same_refl a)

-- the order does not matter
pub same_sym : (a b : List ℕ) → same a b ≡ same b a
unfolding same
same_sym [] [] = refl
same_sym [] (y ∷ b) = refl
same_sym (x ∷ a) [] = refl
same_sym (x ∷ a) (y ∷ b) = rw (eqb_sym x y, same_sym a b)
