-- What stops a form has a number from 1 to some k. It is above 0, so that a number of 0 says that it was read: whoever hands number and line on from group to group asks for it. And none is above k,
-- so that a number above it is another test's. Assumes nothing.
use Prim.Native.Nat.{ℕ, zero, suc, ◌+◌, ◌≤◌}
use mathlib.Core.Path.{◌≡◌, refl}
use mathlib.Core.List.{List, [], ◌∷◌, ◌++◌}
use native.Mathlib.Omega.{arith}
use lib.Dec.{eqb, leb}
use lib.ListN.{length}
use borrow.Author.Tests.{eqb-false}
use Rattle.lines.specs.Field.{number_field, word_field, hex_field, text_end}
use Rattle.lines.specs.Span.{span_of}
use Rattle.lines.specs.declared.read.Field.{Field}
use Rattle.laws.proofs.Cases.{by, whichever}
use Rattle.forms.specs.Form.{Took, took, stopped, on_took, Form, field_took, ended, whole_of}
use Rattle.forms.specs.Form.{number_form, word_form, hex_form, none_form, pair_form, map_form, test_form, numbered_form, renumbered, read_all, many_form}
use Rattle.forms.proofs.LineBounds.{Answer, Lies, number_lies, word_lies, hex_lies}

-- a number of a refusal, up to k
abbrev pub Refusal : ℕ → ℕ → Type 0
Refusal k n = (n ≡ 0 → ⊥) × (n ≤ k)

-- what is stopped is stopped by such a number
abbrev pub RealTook : {A : Type 0} → ℕ → Took A → Type 0
RealTook k t = (n l : ℕ) → t ≡ stopped n l → Refusal k n

-- so of a form, wherever it is read
abbrev pub Real : {A : Type 0} → ℕ → Form A → Type 0
Real k F = (s : List ℕ) (at line : ℕ) → RealTook k (F.read s at line)

-- a number at the end of a text is one of a line
pub end_known : (s : List ℕ) (at : ℕ) → text_end s at ≤ 26
unfolding text_end
end_known s at = whichever (λ (n : ℕ). n ≤ 26) (leb (length s) at) (omega arith) (whichever (λ (n : ℕ). n ≤ 26) (span_of s at).whole (omega arith) (omega arith))

-- from 21 on
pub end_real : (s : List ℕ) (at : ℕ) → (text_end s at ≡ 0 → ⊥) → 21 ≤ text_end s at
unfolding text_end
end_real s at =
    let P = λ (n : ℕ). (n ≡ 0 → ⊥) → 21 ≤ n in
    whichever P (leb (length s) at) (λ z. absurd (z refl)) (whichever P (span_of s at).whole (λ z. omega arith) (λ z. omega arith))

module _ {k : ℕ} where
  -- what is taken is not stopped
  took_real : {A : Type 0} (a : A) (p l : ℕ) → RealTook k (took a p l)
  took_real a p l n m e = absurd (let q : ◌≡◌ {A = ℕ} 0 1 = cc in omega arith)

  -- what is stopped has its number
  stop_real : {A : Type 0} (n l : ℕ) → Refusal k n → RealTook {A = A} k (stopped n l)
  stop_real n l h j m e = let q : n ≡ j = cc in rw (← q) h

  -- what goes on after something
  on_real : {A B : Type 0} (t : Took A) (f : A → ℕ → ℕ → Took B) → RealTook k t → ((a : A) (p l : ℕ) → t ≡ took a p l → RealTook k (f a p l)) → RealTook k (on_took t f)
  unfolding on_took
  on_real (took a p l) f h g = g a p l refl
  on_real (stopped n l) f h g = stop_real n l (h n l refl)

  field_real : {A : Type 0} (f : Field) (a : A) (line : ℕ) → f.number ≤ k → RealTook k (field_took f a line)
  field_real f a line h =
      by (eqb f.number 0) (λ t. rw t (took_real a f.next (line + 1))) (λ t. rw t (stop_real f.number (line + 1) (eqb-false _ _ t, h)))

  -- the forms of single lines, whose numbers go up to 26
  module _ (h : 26 ≤ k) where
    pub number_real : (key : List ℕ) (low high : ℕ) → Real k (number_form key low high)
    unfolding number_form
    number_real key low high s at line = field_real (number_field s at key low high) _ line (omega (arith, h, (number_lies s at key low high).answer.known))

    pub word_real : (key ws : List ℕ) → Real k (word_form key ws)
    unfolding word_form
    word_real key ws s at line = field_real (word_field s at key ws) _ line (omega (arith, h, (word_lies s at key ws).answer.known))

    pub hex_real : (key : List ℕ) (room : ℕ) → Real k (hex_form key room)
    unfolding hex_form
    hex_real key room s at line = field_real (hex_field s at key room) _ line (omega (arith, h, (hex_lies s at key room).answer.known))

  -- the ways to put forms together
  pub none_real : {A : Type 0} (a : A) → Real k (none_form a)
  unfolding none_form
  none_real a s at line = took_real a at line

  pub pair_real : {A B : Type 0} (F : Form A) (G : A → Form B) → Real k F → ((a : A) → Real k (G a)) → Real k (pair_form F G)
  unfolding pair_form
  pair_real F G f g s at line = on_real (F.read s at line) _ (f s at line) (λ a p l e. on_real ((G a).read s p l) _ (g a s p l) (λ b q m e. took_real (a, b) q m))

  pub map_real : {A B : Type 0} (to : A → B) (from : B → A) (F : Form A) → Real k F → Real k (map_form to from F)
  unfolding map_form
  map_real to from F f s at line = on_real (F.read s at line) _ (f s at line) (λ a p l e. took_real (to a) p l)

  pub test_real : {A : Type 0} (test : A → ℕ) (F : Form A) → ((a : A) → test a ≤ k) → Real k F → Real k (test_form test F)
  unfolding test_form
  test_real test F h f s at line =
      on_real (F.read s at line) _ (f s at line) (λ a p l e.
      by (eqb (test a) 0) (λ t. rw t (took_real a p l)) (λ t. rw t (stop_real (test a) l (eqb-false _ _ t, h a))))

  number_again : {A : Type 0} (g : ℕ → ℕ) → ((n : ℕ) → Refusal k n → Refusal k (g n)) → (t : Took A) → RealTook k t → RealTook k (renumbered g t)
  unfolding renumbered
  number_again g h (took a p l) r = took_real a p l
  number_again g h (stopped n l) r = stop_real (g n) l (h n (r n l refl))

  pub numbered_real : {A : Type 0} (g : ℕ → ℕ) (F : Form A) → ((n : ℕ) → Refusal k n → Refusal k (g n)) → Real k F → Real k (numbered_form g F)
  unfolding numbered_form
  numbered_real g F h f s at line = number_again g h (F.read s at line) (f s at line)

  all_real : {A : Type 0} (F : List A → Form A) → ((acc : List A) → Real k (F acc)) → (j : ℕ) (acc : List A) (s : List ℕ) (at line : ℕ) → RealTook k (read_all F j acc s at line)
  unfolding read_all
  all_real F f zero acc s at line = took_real [] at line
  all_real F f (suc j) acc s at line =
      on_real ((F acc).read s at line) _ (f acc s at line)
      (λ a p l e. on_real (read_all F j (acc ++ (a ∷ [])) s p l) _ (all_real F f j (acc ++ (a ∷ [])) s p l) (λ more q m e. took_real (a ∷ more) q m))

  pub many_real : {A : Type 0} (F : List A → Form A) → ((acc : List A) → Real k (F acc)) → (j : ℕ) → Real k (many_form F j)
  unfolding many_form
  many_real F f j s at line = all_real F f j [] s at line

  -- what stands after a whole text has a number of a line, and one that is too long has 27
  pub whole_real : {A : Type 0} (F : Form A) → 27 ≤ k → Real k F → (s : List ℕ) → RealTook k (whole_of F s)
  unfolding whole_of ended
  whole_real F h f s =
      by (leb (length s) 65536)
      (λ t.
      rw t
      (on_real (F.read s 0 0) _ (f s 0 0)
      (λ a p l e. by (eqb (text_end s p) 0) (λ u. rw u (took_real a p l)) (λ u. rw u (stop_real (text_end s p) (l + 1) (eqb-false _ _ u, omega (arith, h, end_known s p)))))))
      (λ t. rw t (stop_real 27 0 ((λ z. omega arith), h)))
