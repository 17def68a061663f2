-- `covers` is exact, and so is the witness: what is found begins a sample, so it is a name, and the matcher was asked of it; where nothing is found the tries are enough (Enough.antt).
-- Assumes nothing.
use Rattle.std.proofs.Common.{◌≡◌, ℕ, ◌+◌, ◌≤◌, Bool, true, false, not, ◌&&◌, eqb, List, [], ◌∷◌, ◌++◌, length, sym, refl, ap, ◌∙◌, arith, length-append, take_all, le-leb}
use borrow.Author.Tests.{not-true, not-false}
use Rattle.laws.specs.Lists.{none}
use Rattle.laws.proofs.Cases.{by, clash}
use Rattle.laws.proofs.Tests.{never, both, neither, fails}
use Rattle.slices.specs.Bytes.{has}
use Rattle.slices.proofs.bytes.WalkLaws.{has-cons}
use Rattle.topics.specs.Covered.{is_name, MatchesAll, shows, CoversExactly}
use Rattle.topics.specs.Covering.{only_later, sample, first_cut, tried_with, or_else, witness, covers}
use Rattle.topics.specs.Matching.{matches_with}
use Rattle.topics.specs.Names.{bad_publish}
use Rattle.topics.specs.Patterns.{pattern_refusal}
use Rattle.topics.proofs.covering.CutLaws.{Found, found}
use Rattle.topics.proofs.covering.Enough.{enough}
use Rattle.topics.proofs.covering.SampleLaws.{sample-length}
use Rattle.topics.proofs.patterns.PatternLaws.{none_some, accepted_length, accepted_placed, accepted_zero}

-- a byte that stands nowhere in a list
has-nil : (k : ℕ) → has k [] ≡ false
unfolding has
has-nil k = refl

has_made : (k b : ℕ) (s : List ℕ) → eqb b k ≡ false → has k s ≡ false → has k (b ∷ s) ≡ false
has_made k b s t e = has-cons k b s ∙ rw (t, e)

has_part : (k : ℕ) (w r : List ℕ) → has k (w ++ r) ≡ false → has k w ≡ false
has_part k [] r e = has-nil k
has_part k (b ∷ w) r e =
    let t = neither (eqb b k) (has k (w ++ r)) (sym (has-cons k b (w ++ r)) ∙ e) in has_made k b w t.0 (has_part k w r t.1)

-- a byte of a sample is the letter, a slash, or one of the pattern's that is no wildcard; `good` is what is known of the pattern from any byte on
module _ (k x : ℕ) (not_x : eqb x k ≡ false) (not_slash : eqb 47 k ≡ false) (good : List ℕ → Type 0)
    (each : (c : ℕ) (q : List ℕ) → good (c ∷ q) → (eqb c 35 ≡ false → eqb c 43 ≡ false → eqb c k ≡ false) × good q) where
  sample-has : (q : List ℕ) → good q → has k (sample x q) ≡ false
  unfolding sample
  sample-has [] g = has-nil k
  sample-has (c ∷ q) g =
      by (eqb c 35)
      (λ e. rw (e, sample) (has_made k x (47 ∷ x ∷ []) not_x (has_made k 47 (x ∷ []) not_slash (has_made k x [] not_x (has-nil k)))))
      (λ e.
      rw (e, sample)
      (has_made k _ (sample x q) (by (eqb c 43) (λ w. rw w not_x) (λ w. rw w ((each c q g).0 e w))) (sample-has q (each c q g).1)))

-- a letter that may stand in a name
abbrev IsLetter : ℕ → Type 0
IsLetter x = (eqb x 0 ≡ false) × (eqb x 43 ≡ false) × (eqb x 35 ≡ false)

-- what begins a sample has no byte that a name may not have
begins_clean : (x : ℕ) (q w r : List ℕ) → IsLetter x → has 0 q ≡ false → w ++ r ≡ sample x q → bad_publish w ≡ false
begins_clean x q w r l n j =
    let zero = sample-has 0 x l.0 refl (λ q. has 0 q ≡ false) (λ c q g. let t = neither (eqb c 0) (has 0 q) (sym (has-cons 0 c q) ∙ g) in ((λ _ _. t.0), t.1)) q n in
    let plus = sample-has 43 x l.1 refl (λ q. q ≡ q) (λ c q g. ((λ _ w. w), refl)) q refl in
    let hash = sample-has 35 x l.2 refl (λ q. q ≡ q) (λ c q g. ((λ e _. e), refl)) q refl in
    rw (has_part 0 w r (rw j zero), has_part 43 w r (rw j plus), has_part 35 w r (rw j hash))

-- one of two answers
or_some : (P : List ℕ → Type 0) (l m : List ℕ) → (none l ≡ false → P l) → (none m ≡ false → P m) → none (or_else l m) ≡ false → P (or_else l m)
or_some P [] m f g e = g e
or_some P (x ∷ l) m f g e = f refl

name_some : (n : List ℕ) → is_name n ≡ true → none n ≡ false
name_some [] e = never e
name_some (x ∷ n) e = refl

module _ (f d : Bool) (p q : List ℕ) (accepted : pattern_refusal q ≡ 0) where
  -- what is found is a name of the later pattern alone
  found_shows : (x : ℕ) (w : List ℕ) → IsLetter x → Found (only_later f d p q) (sample x q) w → shows (matches_with f d) p q w ≡ true
  unfolding only_later
  found_shows x w l t =
      let a = both (not (none w) && matches_with f d w q) (not (matches_with f d w p)) t.passes in
      let b = both (not (none w)) (matches_with f d w q) a.0 in
      let len : length w + length t.rest ≡ length (sample x q) = sym (length-append w t.rest) ∙ ap length t.joined in
      let short : length w ≤ 128 = omega (arith, sample-length x q, (accepted_length q accepted).1) in
      rw (le-leb 1 (length w) (none_some w (not-true _ b.0)), le-leb (length w) 128 short, begins_clean x q w t.rest l (accepted_zero q accepted) t.joined, b.1, a.1)

  witness-shows : covers f d p q ≡ false → shows (matches_with f d) p q (witness f d p q) ≡ true
  unfolding covers witness tried_with
  witness-shows e =
      let whole = take_all 64 q (accepted_length q accepted).1 in
      rw whole
      (or_some (λ w. shows (matches_with f d) p q w ≡ true) (first_cut (only_later f d p q) 5 (sample 97 q)) (first_cut (only_later f d p q) 5 (sample 98 q))
      (λ n. found_shows 97 _ (refl, refl, refl) (found (only_later f d p q) (sample 97 q) 5 n))
      (λ n. found_shows 98 _ (refl, refl, refl) (found (only_later f d p q) (sample 98 q) 5 n))
      (rw whole at e))

-- a topic that both match, and one that the later does not
not_only : (a b c : Bool) → (not a ≡ true → b ≡ true → c ≡ true) → (not a && b && not c) ≡ false
not_only true b c g = refl
not_only false false c g = refl
not_only false true c g = rw (g refl refl)

-- what shows a difference is no name that both match
shown_apart : (f d : Bool) (p q n : List ℕ) → shows (matches_with f d) p q n ≡ true → MatchesAll (matches_with f d) p q → ⊥
shown_apart f d p q n s g =
    let a = both (is_name n && matches_with f d n q) (not (matches_with f d n p)) s in
    let b = both (is_name n) (matches_with f d n q) a.0 in
    clash (g n b.0 b.1) (not-true _ a.1)

pub covers_exactly : CoversExactly
unfolding only_later
covers_exactly f d p q ap' aq =
    let all = enough f d p q (accepted_placed p ap') (accepted_placed q aq) (accepted_length q aq).1 in
    record {
      covered = λ e n k m. all e n (name_some n k) m;
      covering = λ g. not-false _ (fails (not (covers f d p q)) (λ e. shown_apart f d p q (witness f d p q) (witness-shows f d p q aq (not-true _ e)) g));
      shown = witness-shows f d p q aq;
      every_topic = λ e t. not_only (none t) (matches_with f d t q) (matches_with f d t p) (λ s m. all e t (not-true _ s) m);
    }
