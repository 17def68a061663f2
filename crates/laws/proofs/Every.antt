-- Laws of `every`, a test of each element of a list: for loops that go through a list and end at the first element that fails, and for whoever asks after one place.
-- `d` is what is read past the list's end. Assumes nothing.
use mathlib.Core.Bool.{Bool, true, false}
use mathlib.Core.List.{List, [], ◌∷◌, ◌++◌}
use mathlib.Core.Path.{◌≡◌, refl}
use Prim.Native.Nat.{ℕ, zero, suc, ◌+◌, ◌≤◌, ◌<◌}
use native.Mathlib.Numerals.{add-one}
use native.Mathlib.Omega.{arith}
use lib.ListN.{length, take, drop, get_or, set, length-take, drop_of_length-le}
use lib.Seq.{drop-cons, get_or-take}
use Rattle.std.specs.List.{list_all}
use Rattle.laws.specs.Lists.{every}
use Rattle.laws.proofs.Tests.{both}

module _ {A : Type 0} (p : A → Bool) where
  -- what is left at a place: its element passes, and the rest decides
  pub every_on : (l : List A) (d : A) (i : ℕ) → i < length l → p (get_or l i d) ≡ true → every p (drop (i + 1) l) ≡ every p (drop i l)
  unfolding every
  every_on l d i h e = rw (add-one, drop-cons l i d h, e)

  -- it fails
  pub every_off : (l : List A) (d : A) (i : ℕ) → i < length l → p (get_or l i d) ≡ false → every p (drop i l) ≡ false
  unfolding every
  every_off l d i h e = rw (drop-cons l i d h, e)

  -- nothing is left
  pub every_end : (l : List A) (i : ℕ) → length l ≤ i → every p (drop i l) ≡ true
  unfolding every
  every_end l i h = rw (drop_of_length-le l {i = i} h)

  -- all pass: so do the first, and all of the rest
  pub every_both : (x : A) (l : List A) → every p (x ∷ l) ≡ true → (p x ≡ true) × (every p l ≡ true)
  unfolding every
  every_both x l e = both (p x) (every p l) e

  -- all pass: so does the one at each place
  pub every_at : (l : List A) (d : A) (i : ℕ) → every p l ≡ true → i < length l → p (get_or l i d) ≡ true
  every_at [] d i e h = absurd (omega arith)
  every_at (x ∷ xs) d zero e h = (every_both x xs e).0
  every_at (x ∷ xs) d (suc i) e h = every_at xs d i (every_both x xs e).1 (omega arith)

  -- the one at each place passes: so do all
  every_each : (l : List A) (d : A) → ((i : ℕ) → i < length l → p (get_or l i d) ≡ true) → every p l ≡ true
  unfolding every
  every_each [] d f = refl
  every_each (x ∷ xs) d f = rw (f 0 (omega arith)) (every_each xs d (λ i h. f (suc i) (omega arith)))

  -- all pass, with one that passes stored
  pub every-set : (l : List A) (i : ℕ) (y : A) → every p l ≡ true → p y ≡ true → every p (set l i y) ≡ true
  unfolding every
  every-set [] i y e h = refl
  every-set (x ∷ xs) zero y e h = rw (h) (every_both x xs e).1
  every-set (x ∷ xs) (suc i) y e h = let b = every_both x xs e in rw b.0 (every-set xs i y b.1 h)

  -- all of two lists pass: so do all of one behind the other
  pub every_join : (a b : List A) → every p a ≡ true → every p b ≡ true → every p (a ++ b) ≡ true
  unfolding every
  every_join [] b e f = f
  every_join (x ∷ a) b e f = let h = every_both x a e in rw h.0 (every_join a b h.1 f)

  -- and the other way round
  pub every_front : (a b : List A) → every p (a ++ b) ≡ true → every p a ≡ true
  unfolding every
  every_front [] b e = refl
  every_front (x ∷ a) b e = let h = every_both x (a ++ b) e in rw h.0 (every_front a b h.1)

  pub every_back : (a b : List A) → every p (a ++ b) ≡ true → every p b ≡ true
  every_back [] b e = e
  every_back (x ∷ a) b e = every_back a b (every_both x (a ++ b) e).1

  -- the same place by place of the first n
  module _ (l : List A) (d : A) (n : ℕ) (h : n ≤ length l) where
    pub every_first : every p (take n l) ≡ true → (i : ℕ) → i < n → p (get_or l i d) ≡ true
    every_first e i k = rw (get_or-take n l i d k) at (every_at (take n l) d i e (omega (arith, length-take n l)))

    pub first_every : ((i : ℕ) → i < n → p (get_or l i d) ≡ true) → every p (take n l) ≡ true
    first_every f =
        every_each (take n l) d
        (λ i k. let m : i < n = omega (arith, length-take n l) in rw (get_or-take n l i d m) (f i m))

-- a chain's word for it
pub list_all_every : {A : Type 0} (p : A → Bool) (l : List A) → list_all p l ≡ every p l
unfolding every
list_all_every p [] = refl
list_all_every p (x ∷ l) = rw (list_all_every p l)
