-- How writes into a lent buffer follow one another: none (`wrote_none`), one after another (`wrote_then`), a byte more (`wrote_more`), the rest cut off (`wrote_cut`).
-- No other law has a condition on the room, since what does not fit is cut off; who knows that all fits has the place by `wrote_room`. Assumes nothing.
use Prim.Native.Nat.{ℕ, suc, ◌+◌, ◌≤◌, ◌<◌}
use mathlib.Core.Path.{◌≡◌, refl, sym, ap, ◌∙◌}
use mathlib.Core.List.{List, [], ◌∷◌, ◌++◌}
use native.Mathlib.Omega.{arith}
use native.Mathlib.Nat.{add-zero, add-suc, suc-add}
use native.Mathlib.Numerals.{add-one}
use lib.ListN.{length, set, take, drop, get_or, length-append}
use lib.Seq.{sets, length-sets, set_out, take-suc}
use Rattle.std.proofs.lemmas.List.{take-append-drop}
use Rattle.laws.proofs.Cases.{by_le}
use Rattle.lines.specs.Wrote.{Wrote, place_after}

sets-append : (l : List ℕ) (i : ℕ) (a b : List ℕ) → sets (sets l i a) (i + length a) b ≡ sets l i (a ++ b)
sets-append l i [] b = rw add-zero
sets-append l i (x ∷ a) b = rw (add-suc, ← suc-add) (sets-append (set l i x) (suc i) a b)

sets_out : (l : List ℕ) (i : ℕ) (t : List ℕ) → length l ≤ i → sets l i t ≡ l
sets_out l i [] h = refl
sets_out l i (x ∷ t) h = rw (set_out l i x h) (sets_out l (suc i) t (omega arith))

sets_then : (d : List ℕ) (at p : ℕ) (t u : List ℕ) → p ≡ place_after (length d) at (length t) → sets (sets d at t) p u ≡ sets d at (t ++ u)
sets_then d at p t u e =
    by_le (at + length t) (length d)
    (λ h. let q : p ≡ at + length t = omega arith in rw q (sets-append d at t u))
    (λ h. let k : length (sets d at t) ≡ length d = length-sets d at t in
    sets_out (sets d at t) p u (omega arith) ∙ sym (sets_out (sets d at t) (at + length t) u (omega arith)) ∙ sets-append d at t u)

module _ {d e : List ℕ} {at r : ℕ} {t : List ℕ} (w : Wrote d e at t r) where
  pub wrote_length : length e ≡ length d
  wrote_length = ap length w.bytes ∙ length-sets d at t

  pub wrote_room : at + length t ≤ length d → r ≡ at + length t
  wrote_room h = omega (arith, w.next)

  pub wrote_then : {f : List ℕ} {s : ℕ} {u : List ℕ} → Wrote e f r u s → Wrote d f at (t ++ u) s
  wrote_then {f} {s} {u} v =
      let k : length e ≡ length d = wrote_length in
      record {
        next = rw length-append (omega (arith, w.next, v.next));
        bytes = v.bytes ∙ ap (λ (l : List ℕ). sets l r u) w.bytes ∙ sets_then d at r t u w.next;
      }

pub wrote_none : (d : List ℕ) (at : ℕ) → Wrote d d at [] at
wrote_none d at = record { next = omega arith; bytes = refl }

-- a loop that writes `s` byte by byte: it stands at place `i` of `s` and at place `p` of the buffer
module _ {d e : List ℕ} {at p : ℕ} (s : List ℕ) (i : ℕ) (w : Wrote d e at (take i s) p) where
  pub wrote_more : i < length s → {f : List ℕ} {r : ℕ} → Wrote e f p (get_or s i 0 ∷ []) r → Wrote d f at (take (i + 1) s) r
  wrote_more h v = rw (add-one i, take-suc s i 0) (wrote_then w v)

  -- the buffer is full
  pub wrote_cut : length e ≤ p → Wrote d e at s p
  wrote_cut h =
      let none : Wrote e e p (drop i s) p = record { next = omega (arith, h); bytes = sym (sets_out e p (drop i s) h) } in
      let all : Wrote d e at (take i s ++ drop i s) p = wrote_then w none in
      rw (take-append-drop i s) at all
