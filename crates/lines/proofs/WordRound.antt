-- Words there and back (document 01, "The trace": a choice is one of the words `allow|block`): what is written of a place in a list of different words is read as it, and what is read as a place is
-- what is written of it. That the words of a list are different is a test that computes: `refl` for a list that is written out. Assumes nothing.
use Prim.Native.Nat.{ℕ, zero, suc, ◌≤◌, ◌<◌}
use mathlib.Core.Path.{◌≡◌, sym, ap}
use mathlib.Core.Bool.{true}
use mathlib.Core.List.{List, [], ◌∷◌}
use native.Mathlib.Omega.{arith}
use lib.Dec.{ltb}
use lib.ListN.{length, get_or}
use borrow.Author.Tests.{eqb-true, lt-ltb, ltb-true}
use Rattle.laws.proofs.Cases.{by}
use Rattle.laws.proofs.Tests.{both}
use Rattle.slices.specs.Bytes.{same}
use Rattle.slices.proofs.bytes.SameLaws.{same-true, same_refl}
use Rattle.lines.specs.declared.value.Number.TheVariants.{Value, Bad}
use Rattle.lines.specs.Word.{words_of, word_text}
use Rattle.lines.specs.ReadWord.{word_index, word_of, different}

-- a word of a list is found at its place or before
found_by : (ws : List (List ℕ)) (k : ℕ) → k < length ws → word_index ws (get_or ws k []) ≤ k
unfolding word_index
found_by [] k h = absurd (omega arith)
found_by (w ∷ ws) zero h = rw (same_refl w, word_index) (omega arith)
found_by (w ∷ ws) (suc k) h =
    by (same w (get_or ws k []))
    (λ t. rw (t, word_index) (omega arith))
    (λ t. rw (t, word_index) (omega (arith, found_by ws k (omega arith))))

-- and where the words are different, at its place
found_at : (ws : List (List ℕ)) (k : ℕ) → different ws ≡ true → k < length ws → word_index ws (get_or ws k []) ≡ k
unfolding word_index different
found_at [] k d h = absurd (omega arith)
found_at (w ∷ ws) zero d h = rw (same_refl w, word_index)
found_at (w ∷ ws) (suc k) d h =
    let b = both _ _ d in
    by (same w (get_or ws k []))
    (λ t.
    let i : word_index ws w ≡ length ws = eqb-true _ _ b.0 in
    let s : get_or ws k [] ≡ w = sym (same-true w (get_or ws k []) t) in
    let f : word_index ws w ≤ k = rw s at (found_by ws k (omega arith)) in
    absurd (omega arith))
    (λ t. rw (t, word_index) (ap suc (found_at ws k b.1 (omega arith))))

-- what is found is the word at that place
found_is : (ws : List (List ℕ)) (l : List ℕ) → word_index ws l < length ws → l ≡ get_or ws (word_index ws l) []
unfolding word_index
found_is [] l h = absurd (omega arith)
found_is (w ∷ ws) l h =
    by (same w l)
    (λ t. rw (t, word_index) (sym (same-true w l t)))
    (λ t. let g = rw (t, word_index) at h in rw (t, word_index) (found_is ws l (omega arith)))

-- what is written of a place is read as it
word_read : (ws : List ℕ) (k : ℕ) → different (words_of ws) ≡ true → k < length (words_of ws) → word_index (words_of ws) (word_text ws k) ≡ k
unfolding word_text
word_read ws k d h = found_at (words_of ws) k d h

pub word_value : (ws : List ℕ) (k : ℕ) → different (words_of ws) ≡ true → k < length (words_of ws) → word_of ws (word_text ws k) ≡ Value k
unfolding word_of
word_value ws k d h = rw (word_read ws k d h, lt-ltb k (length (words_of ws)) h)

-- what is read as a place is what is written of it
word_unique : (ws l : List ℕ) (k : ℕ) → word_index (words_of ws) l ≡ k → k < length (words_of ws) → l ≡ word_text ws k
unfolding word_text
word_unique ws l k e h = rw e at (found_is (words_of ws) l (rw e h))

pub word_taken : (ws l : List ℕ) (k : ℕ) → word_of ws l ≡ Value k → (l ≡ word_text ws k) × (k < length (words_of ws))
unfolding word_of
word_taken ws l k e =
    by (ltb (word_index (words_of ws) l) (length (words_of ws)))
    (λ t.
    let q : Value (word_index (words_of ws) l) ≡ Value k = rw t at e in
    let i : word_index (words_of ws) l ≡ k = cc in
    let h : k < length (words_of ws) = rw i at (ltb-true (word_index (words_of ws) l) (length (words_of ws)) t) in
    (word_unique ws l k i h, h))
    (λ t. absurd (let q : Bad ≡ Value k = rw t at e in let z : ◌≡◌ {A = ℕ} 0 1 = cc in omega arith))
