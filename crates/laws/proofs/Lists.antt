-- Laws of parts of lists and of lists with one element stored, whatever the elements are; and of bytes with zeros after them. `d` is what is read past a list's end. Assumes nothing.
use mathlib.Core.Bool.{Bool, not}
use mathlib.Core.List.{List, [], ◌∷◌, ◌++◌}
use mathlib.Core.Path.{◌≡◌, sym, ◌∙◌}
use Prim.Native.Nat.{ℕ, zero, suc, ◌+◌, ◌-◌, ◌<◌, ◌≤◌, min}
use native.Mathlib.Numerals.{add-one}
use native.Mathlib.Omega.{arith}
use borrow.Author.Tests.{leb-true, leb-false, eqb-true, eqb-false, ltb-false}
use lib.Dec.{eqb, leb, ltb}
use lib.ListN.{length, take, drop, get_or, set, replicate, length-drop}
use lib.Seq.{take_all, take-suc, append_snoc, set_at, length-take-le, get_or-set_same, get_or-set_other}
use Rattle.std.specs.List.{position, position_or_len}
use Rattle.std.specs.Option.{unwrap_or}
use Rattle.std.proofs.lemmas.List.Sums.{prefix_len-le-length}
use Rattle.laws.proofs.Cases.{by}

module _ {A : Type 0} where
  -- as many elements as are taken, where both counts are past the list's end or equal
  pub take_like : (l : List A) (m n : ℕ) → min m (length l) ≡ min n (length l) → take m l ≡ take n l
  take_like l m n e =
      by (leb (length l) m)
      (λ h. take_all m l (leb-true _ _ h) ∙ sym (take_all n l (omega (arith, leb-true (length l) m h))))
      (λ h. let k : m ≡ n = omega (arith, leb-false (length l) m h) in rw k)

  -- a list's first elements are no more than it has
  pub take-min : (n : ℕ) (l : List A) → take n l ≡ take (min n (length l)) l
  take-min n l = take_like l n (min n (length l)) (omega arith)

  -- a slice from k on, as code reads it, is what is left after k
  pub tail_whole : (s : List A) (k : ℕ) → take (length s - k) (drop k s) ≡ drop k s
  tail_whole s k = take_all (length s - k) (drop k s) (omega (arith, length-drop k s))

  -- what is left of a list of equal elements
  pub drop-replicate : (k n : ℕ) (x : A) → drop k (replicate n x) ≡ replicate (n - k) x
  drop-replicate zero n x = let e : n - 0 ≡ n = omega arith in rw e
  drop-replicate (suc k) zero x = let e : 0 - suc k ≡ 0 = omega arith in rw e
  drop-replicate (suc k) (suc n) x = let e : suc n - suc k ≡ n - k = omega arith in rw e (drop-replicate k n x)

-- the first place that passes a test, and the length for none: `s.iter().position(test).unwrap_or(s.len())`
pub position_or : {A : Type 0} (test : A → Bool) (s : List A) → unwrap_or (position test s) (length s) ≡ position_or_len test s
position_or test s =
    let k = prefix_len-le-length (λ x. not (test x)) s in
    by (ltb (position_or_len test s) (length s)) (λ e. rw e) (λ e. rw e (omega (arith, ltb-false _ _ e, k)))

-- after a store
module _ {A : Type 0} (d : A) (l : List A) (k : ℕ) (x : A) (h : k < length l) where
  -- a fact of every place: it holds of the new element, and held of the others
  pub each : (P : ℕ → A → Type 0) → P k x → ((j : ℕ) → (j ≡ k → ⊥) → P j (get_or l j d)) → (j : ℕ) → P j (get_or (set l k x) j d)
  each P p q j =
      by (eqb j k)
      (λ e. let m : j ≡ k = eqb-true j k e in rw (m, get_or-set_same l k x d h) p)
      (λ e. let n : j ≡ k → ⊥ = eqb-false j k e in rw (get_or-set_other l k j x d n) (q j n))

  -- a fact of every two of the first n places: it holds of the new element with each before it and each after it, and held of the others
  pub pairs : (R : A → A → Type 0) (n : ℕ) → ((i : ℕ) → i < k → k < n → R (get_or l i d) x) → ((j : ℕ) → k < j → j < n → R x (get_or l j d))
      → ((i j : ℕ) → (i ≡ k → ⊥) → (j ≡ k → ⊥) → i < j → j < n → R (get_or l i d) (get_or l j d))
      → (i j : ℕ) → i < j → j < n → R (get_or (set l k x) i d) (get_or (set l k x) j d)
  pairs R n before after rest i j =
      each (λ i u. i < j → j < n → R u (get_or (set l k x) j d))
      (each (λ j v. k < j → j < n → R x v) (λ h m. absurd (omega arith)) (λ j e h m. after j h m) j)
      (λ i f. each (λ j v. i < j → j < n → R (get_or l i d) v) (λ h m. before i h m) (λ j e h m. rest i j f e h m) j)
      i

-- bytes with zeros after them up to a size: one byte more
pub padded_more : (size : ℕ) (p : List ℕ) (i : ℕ) → i < length p → i < size → set (take i p ++ replicate (size - i) 0) i (get_or p i 0) ≡ take (i + 1) p ++ replicate (size - (i + 1)) 0
padded_more size p i h k =
    let e : size - i ≡ suc (size - (i + 1)) = omega arith in
    let more : take (i + 1) p ≡ take i p ++ (get_or p i 0 ∷ []) = rw (add-one) (take-suc p i 0 h) in
    rw (e, set_at (take i p) 0 (replicate (size - (i + 1)) 0) (get_or p i 0) i (length-take-le i p (omega arith)))
    (rw more (sym (append_snoc (take i p) (get_or p i 0) (replicate (size - (i + 1)) 0))))

-- bytes, zeros after them up to a size: all of them
pub padded_done : (size : ℕ) (p : List ℕ) (i : ℕ) → length p ≤ size → i ≡ length p → take i p ++ replicate (size - i) 0 ≡ take size p ++ replicate (size - length p) 0
padded_done size p i h e =
    let z : size - i ≡ size - length p = omega arith in rw (z, take_all i p (omega arith), take_all size p h)
