-- Lines one after another: what a chain of readers gives is what the form of the group reads. A group's law is put together as its form is: `pair_lined` for each line but the last, with the law that
-- a refused line passes through all that follow (`…-stays`), and which line of the group each is (`…-line`). Assumes nothing.
use Prim.Native.Nat.{ℕ, ◌+◌}
use mathlib.Core.Path.{◌≡◌}
use mathlib.Core.Bool.{cond}
use mathlib.Core.List.{List}
use lib.Dec.{eqb}
use borrow.Author.Tests.{eq-eqb, ne_eqb, eqb-true, eqb-false}
use Rattle.laws.proofs.Cases.{by}
use Rattle.forms.specs.Form.{Took, took, stopped, on_took, Form, number_form, word_form, pair_form, map_form}
use Rattle.forms.specs.declared.chain.Lined.{Lined}
use Rattle.forms.specs.Chain.{after, number_after, word_after}

-- what lines give, as a form has it
abbrev pub took_of : {A : Type 0} → Lined → A → Took A
took_of l v = cond (eqb l.number 0) (took v l.next (l.line + 1)) (stopped l.number (l.line + 1))

-- one of them was refused
abbrev pub Refused : Lined → Type 0
Refused l = l.number ≡ 0 → ⊥

-- one form and then another
pub pair_lined : {A B : Type 0} (F : Form A) (G : A → Form B) (s : List ℕ) (at line : ℕ) (l r : Lined) (v : A) (w : B) → F.read s at line ≡ took_of l v
    → (l.number ≡ 0 → (G v).read s l.next (l.line + 1) ≡ took_of r w) → (Refused l → r ≡ l) → (pair_form F G).read s at line ≡ took_of r (v, w)
unfolding pair_form on_took
pair_lined F G s at line l r v w e f g =
    by (eqb l.number 0)
    (λ t. rw (e, t, on_took, f (eqb-true _ _ t)) (by (eqb r.number 0) (λ u. rw (u, on_took)) (λ u. rw (u, on_took))))
    (λ t. rw (e, g (eqb-false _ _ t), t, on_took))

-- the same lines for values of another type
pub map_lined : {A B : Type 0} (to : A → B) (from : B → A) (F : Form A) (s : List ℕ) (at line : ℕ) (l : Lined) (v : A) → F.read s at line ≡ took_of l v
    → (map_form to from F).read s at line ≡ took_of l (to v)
unfolding map_form on_took
map_lined to from F s at line l v e = rw e (by (eqb l.number 0) (λ t. rw (t, on_took)) (λ t. rw (t, on_took)))

-- a line after others: read where they were, and the next of them
module _ (s : List ℕ) (l : Lined) (k : ℕ) (key : List ℕ) where
  module _ (low high : ℕ) where
    pub number_lined : l.number ≡ 0 → k ≡ l.line + 1
        → (number_form key low high).read s l.next (l.line + 1) ≡ took_of (number_after s l k key low high) (number_after s l k key low high).value
    unfolding number_form number_after
    number_lined z e = rw (eq-eqb _ _ z, e)

    pub number_stays : Refused l → number_after s l k key low high ≡ l
    unfolding number_after
    number_stays z = rw (ne_eqb _ _ z)

    pub number-line : l.number ≡ 0 → (number_after s l k key low high).line ≡ k
    unfolding number_after
    number-line z = rw (eq-eqb _ _ z)

  module _ (ws : List ℕ) where
    pub word_lined : l.number ≡ 0 → k ≡ l.line + 1
        → (word_form key ws).read s l.next (l.line + 1) ≡ took_of (word_after s l k key ws) (word_after s l k key ws).value
    unfolding word_form word_after
    word_lined z e = rw (eq-eqb _ _ z, e)

    pub word_stays : Refused l → word_after s l k key ws ≡ l
    unfolding word_after
    word_stays z = rw (ne_eqb _ _ z)

    pub word_line : l.number ≡ 0 → (word_after s l k key ws).line ≡ k
    unfolding word_after
    word_line z = rw (eq-eqb _ _ z)
