-- The tries are enough: where the earlier pattern matches each of them that is a name of the later one, it matches every topic of at least 1 byte that the later one matches. For both flags at once.
-- Assumes nothing.
use Rattle.std.proofs.Common.{◌≡◌, ℕ, ◌≤◌, Bool, true, false, not, ◌&&◌, eqb, List, [], ◌∷◌, ◌++◌, length, sym, refl, ap, ◌∙◌, arith, take_all, eqb-true}
use mathlib.Core.Bool.{or-true, and-false}
use borrow.Author.Tests.{not-false}
use Rattle.laws.specs.Lists.{none}
use Rattle.laws.proofs.Cases.{by}
use Rattle.laws.proofs.Tests.{never, both}
use Rattle.slices.specs.Bytes.{starts_with}
use Rattle.slices.proofs.bytes.SameLaws.{same_refl}
use Rattle.topics.specs.Covering.{only_later, sample, first_cut, tried_with, or_else, witness, covers}
use Rattle.topics.specs.Levels.{first_level, rest_levels, levels, is_hash, is_plus}
use Rattle.topics.specs.Matching.{starts_wild, dollar_apart, takes_none, match_levels, match_bytes, matches_with}
use Rattle.topics.specs.Patterns.{well_placed}
use Rattle.topics.proofs.covering.CutLaws.{none_passes, Part, part_cut, part_of, cut_part}
use Rattle.topics.proofs.covering.NameTried.{has_byte, nothing, empty, one, two, NameTried, name_tried}
use Rattle.topics.proofs.covering.SampleLaws.{filled, cut, filled-levels, cut-levels}
use Rattle.topics.proofs.covering.TriedLaws.{fill, letter, none_taken, plus_takes, plain_takes}
use Rattle.topics.proofs.matching.Meaning.{meaning, begins_hash, some_level}
use Rattle.topics.proofs.patterns.Placed.{placed-levels}

-- a pattern takes its own filling
hash_taken : (f : Bool) (e : List (List ℕ)) (q : List ℕ) (qs : List (List ℕ)) → is_hash q ≡ true → match_levels f e (q ∷ qs) ≡ true
unfolding match_levels
hash_taken f [] q qs h = h
hash_taken f (t ∷ ts) q qs h = rw (h, match_levels)

fill_taken : (f : Bool) (x : ℕ) (e qs : List (List ℕ)) → match_levels f (fill x e qs) qs ≡ true
unfolding fill
fill_taken f x e [] = none_taken f
fill_taken f x e (q ∷ qs) =
    by (is_hash q)
    (λ h. rw (h, fill) (hash_taken f e q qs h))
    (λ h.
    by (is_plus q)
    (λ w. rw (h, fill, w, plus_takes f (x ∷ []) q (fill x e qs) qs h w, or-true f) (fill_taken f x e qs))
    (λ w. rw (h, fill, w, plain_takes f q q (fill x e qs) qs h w, same_refl q) (fill_taken f x e qs)))

-- a topic that is none of the later pattern alone
only_false : (f d : Bool) (p q n : List ℕ) → only_later f d p q n ≡ false → none n ≡ false → matches_with f d n q ≡ true → matches_with f d n p ≡ true
unfolding only_later
only_false f d p q n e u v = not-false (matches_with f d n p) (rw (u, v) at e)

only_none : (f d : Bool) (p q : List ℕ) → only_later f d p q [] ≡ false
unfolding only_later
only_none f d p q = refl

or_none : (l m : List ℕ) → none (or_else l m) ≡ true → (none l ≡ true) × (none m ≡ true)
or_none [] m e = (refl, e)
or_none (x ∷ l) m e = never e

-- the dollar rule, over tests
not_apart : (d a m : Bool) → a ≡ false → m ≡ true → (not (d && a) && m) ≡ true
not_apart d false m e k = rw (and-false d) k
not_apart d true m e k = never (sym e)

let_pass : (d b w : Bool) → (d ≡ true → b ≡ true → w ≡ true → ⊥) → not (d && (b && w)) ≡ true
let_pass false b w g = refl
let_pass true false w g = refl
let_pass true true false g = refl
let_pass true true true g = absurd (g refl refl refl)

not_wild_then : (d b w : Bool) → d ≡ true → b ≡ true → not (d && (b && w)) ≡ true → w ≡ false
not_wild_then d b true u v e = never (rw (u, v) at e)
not_wild_then d b false u v e = refl

-- the letters
no_slash : (b : Bool) → eqb (letter b) 47 ≡ false
no_slash true = refl
no_slash false = refl

no_dollar : (b : Bool) → eqb (letter b) 36 ≡ false
no_dollar true = refl
no_dollar false = refl

some_byte : (c : List ℕ) → has_byte (levels c) ≡ true → none c ≡ false
unfolding first_level rest_levels
some_byte [] e = never e
some_byte (x ∷ c) e = refl

-- no filling of a pattern that begins with a wildcard begins with a dollar sign
filled_apart : (b : Bool) (e q : List ℕ) → starts_with 36 e ≡ false → dollar_apart (filled (letter b) e q) q ≡ false
unfolding filled
filled_apart b e [] n = refl
filled_apart b e (c ∷ q) n =
    by (eqb c 35)
    (λ h. rw (h, filled, n))
    (λ h. by (eqb c 43) (λ w. rw (h, filled, w, no_dollar b)) (λ w. rw (h, filled, w, and-false (eqb c 36))))

cut_apart : (b : Bool) (q : List ℕ) → dollar_apart (cut (letter b) q) q ≡ false
unfolding cut takes_none
cut_apart b [] = refl
cut_apart b (c ∷ q) =
    by (eqb c 35)
    (λ h. rw (h, cut, takes_none))
    (λ h.
    by (eqb c 47 && starts_with 35 q)
    (λ s. rw (h, s, cut, takes_none))
    (λ s. by (eqb c 43) (λ w. rw (h, s, cut, takes_none, w, no_dollar b)) (λ w. rw (h, s, cut, takes_none, w, and-false (eqb c 36)))))

-- levels of what stands for `#`
one_level : (b : Bool) → levels (letter b ∷ []) ≡ (letter b ∷ []) ∷ []
unfolding first_level rest_levels
one_level true = refl
one_level false = refl

two_levels : (b : Bool) → levels (letter b ∷ 47 ∷ letter b ∷ []) ≡ (letter b ∷ []) ∷ (letter b ∷ []) ∷ []
unfolding first_level rest_levels
two_levels true = refl
two_levels false = refl

-- a topic that begins with a dollar sign is matched only by patterns that begin with it or with a wildcard
dollar_first : (f : Bool) (n q : List ℕ) → starts_with 36 n ≡ true → match_bytes f n q ≡ true → starts_wild q ≡ false → starts_with 36 q ≡ true
unfolding match_bytes
dollar_first f [] q u m w = never u
dollar_first f (x ∷ n) [] u m w = never m
dollar_first f (x ∷ n) (c ∷ q) u m w =
    by (eqb c 35)
    (λ h. never (sym w ∙ rw h))
    (λ h.
    by (eqb c 43)
    (λ k. never (sym w ∙ rw (k, or-true (eqb c 35))))
    (λ k.
    let e = (both (eqb c x) (match_bytes f n q) (rw (h, k, match_bytes) at m)).0 in
    rw (eqb-true c x e) u))

filled_first : (x : ℕ) (e q : List ℕ) → starts_with 36 q ≡ true → starts_with 36 (filled x e q) ≡ true
unfolding filled
filled_first x e [] u = never u
filled_first x e (c ∷ q) u = rw (eqb-true c 36 u)

dollar_byte : (s : List ℕ) → starts_with 36 s ≡ true → has_byte (levels s) ≡ true
dollar_byte [] u = never u
dollar_byte (x ∷ s) u = rw (some_level x s)

module _ (f d : Bool) (p q : List ℕ) (wp : well_placed (levels p) ≡ true) (wq : well_placed (levels q) ≡ true) (short : length q ≤ 64) (cov : covers f d p q ≡ true) where
  -- none of the tries is a name of `q` alone
  none_found : (b : Bool) → none (first_cut (only_later f d p q) 5 (sample (letter b) q)) ≡ true
  unfolding covers witness tried_with
  none_found true = (or_none (first_cut (only_later f d p q) 5 (sample 97 q)) _ (rw (take_all 64 q short) at cov)).0
  none_found false = (or_none (first_cut (only_later f d p q) 5 (sample 97 q)) _ (rw (take_all 64 q short) at cov)).1

  tried_part : (b : Bool) (c : List ℕ) → Part c (sample (letter b) q) 4 → only_later f d p q c ≡ false
  tried_part b c t =
      rw (part_cut c (sample (letter b) q) t) at
      (none_passes (only_later f d p q) (only_none f d p q) (sample (letter b) q) 5 (none_found b) (length t.rest) (omega (arith, t.few)))

  -- a try with the levels of a filling is matched by `p`, and its levels are
  taken
      : (b : Bool) (c : List ℕ) (e : List (List ℕ)) → Part c (sample (letter b) q) 4 → levels c ≡ fill (letter b) e (levels q) → dollar_apart c q ≡ false
      → has_byte (fill (letter b) e (levels q)) ≡ true → (not (d && dollar_apart c p) ≡ true) × (match_levels f (fill (letter b) e (levels q)) (levels p) ≡ true)
  taken b c e t l w n =
      let m : match_bytes f c q ≡ true = meaning f false c q wq ∙ rw l (fill_taken f (letter b) e (levels q)) in
      let k = only_false f d p q c (tried_part b c t) (some_byte c (ap has_byte l ∙ n)) (not_apart d (dollar_apart c q) (match_bytes f c q) w m) in
      let r = both (not (d && dollar_apart c p)) (match_bytes f c p) k in
      (r.0, rw (← l) (sym (meaning f false c p wp) ∙ r.1))

  -- with the bytes `u` for `#`
  filled_taken
      : (b : Bool) (u v : List ℕ) (e : List (List ℕ)) → u ++ v ≡ letter b ∷ 47 ∷ letter b ∷ [] → length v ≤ 4 → levels u ≡ e → starts_with 36 u ≡ false
      → has_byte (fill (letter b) e (levels q)) ≡ true
      → (not (d && dollar_apart (filled (letter b) u q) p) ≡ true) × (match_levels f (fill (letter b) e (levels q)) (levels p) ≡ true)
  filled_taken b u v e j l k w n =
      taken b (filled (letter b) u q) e (part_of (letter b) u v q j l) (rw (← k) (filled-levels (letter b) (no_slash b) u q wq)) (filled_apart b u q w) n

  -- with nothing for `#`
  cut_taken : (b : Bool) → has_byte (fill (letter b) [] (levels q)) ≡ true → match_levels f (fill (letter b) [] (levels q)) (levels p) ≡ true
  unfolding fill
  cut_taken b n =
      by (starts_with 35 q)
      (λ h. never (rw (sym (begins_hash q (placed-levels q ∙ wq)) ∙ h, fill) at n))
      (λ h. (taken b (cut (letter b) q) [] (cut_part (letter b) q) (cut-levels (letter b) (no_slash b) q wq h) (cut_apart b q) n).1)

  all_taken : NameTried f (levels q) (levels p)
  unfolding first_level rest_levels
  all_taken b nothing n = cut_taken b n
  all_taken b empty n = (filled_taken b [] (letter b ∷ 47 ∷ letter b ∷ []) ([] ∷ []) refl (omega arith) refl refl n).1
  all_taken b one n = (filled_taken b (letter b ∷ []) (47 ∷ letter b ∷ []) _ refl (omega arith) (one_level b) (no_dollar b) n).1
  all_taken b two n = (filled_taken b (letter b ∷ 47 ∷ letter b ∷ []) [] _ refl (omega arith) (two_levels b) (no_dollar b) n).1

  -- every topic of at least 1 byte, by the bytes alone
  bytes_taken : (n : List ℕ) → none n ≡ false → match_bytes f n q ≡ true → match_bytes f n p ≡ true
  bytes_taken [] e m = never (sym e)
  bytes_taken (x ∷ n) e m =
      meaning f false (x ∷ n) p wp
      ∙ name_tried f (first_level q) (rest_levels q) (first_level (x ∷ n)) (rest_levels (x ∷ n)) (levels p) all_taken (rw (some_level x n)) (sym (meaning f false (x ∷ n) q wq) ∙ m)

  -- where the dollar rule kept `p` from a name of `q`, `q` begins with a dollar sign, and so does its sample, from which it would keep `p` too
  never_apart : (n : List ℕ) → not (d && dollar_apart n q) ≡ true → match_bytes f n q ≡ true → not (d && dollar_apart n p) ≡ true
  never_apart n a m =
      let_pass d (starts_with 36 n) (starts_wild p)
      (λ u v w.
      let e = letter true ∷ 47 ∷ letter true ∷ [] in
      let s = filled_first 97 e q (dollar_first f n q v m (not_wild_then d (starts_with 36 n) (starts_wild q) u v a)) in
      let l : levels (filled 97 e q) ≡ fill 97 (levels e) (levels q) = filled-levels 97 refl e q wq in
      let t = (filled_taken true e [] (levels e) refl (omega arith) refl refl (sym (ap has_byte l) ∙ dollar_byte (filled 97 e q) s)).0 in
      never (sym (not_wild_then d (starts_with 36 (filled 97 e q)) (starts_wild p) u s t) ∙ w))

  -- every topic of at least 1 byte
  pub enough : (n : List ℕ) → none n ≡ false → matches_with f d n q ≡ true → matches_with f d n p ≡ true
  enough n e m =
      let r = both (not (d && dollar_apart n q)) (match_bytes f n q) m in
      rw (never_apart n r.0 r.1) (bytes_taken n e r.1)
