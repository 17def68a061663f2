-- The tries with one letter: where the search finds none, none passes; what it finds passes, and begins the sample. Each filling of a pattern begins its sample, with at most 4 bytes missing.
-- Assumes nothing.
use Rattle.std.proofs.Common.{◌≡◌, ℕ, zero, suc, ◌-◌, ◌<◌, ◌≤◌, Bool, true, false, cond, ◌&&◌, eqb, List, [], ◌∷◌, ◌++◌, length, drop, sym, refl, ap, arith, length-append, take-append-drop, eqb-true}
use borrow.Author.Tests.{eqb-false}
use lib.Seq.{take-append_seam}
use Rattle.laws.specs.Lists.{none}
use Rattle.laws.proofs.Cases.{by, clash}
use Rattle.laws.proofs.Tests.{never, both}
use Rattle.slices.specs.Bytes.{starts_with}
use Rattle.topics.specs.Covering.{sample, all_but, first_cut}
use Rattle.topics.specs.Matching.{takes_none}
use Rattle.topics.proofs.covering.SampleLaws.{filled, cut}

is_none : (l : List ℕ) → none l ≡ true → l ≡ []
is_none [] e = refl
is_none (c ∷ l) e = never e

-- where it finds none, no try passes
pub none_passes : (test : List ℕ → Bool) → test [] ≡ false → (s : List ℕ) (n : ℕ) → none (first_cut test n s) ≡ true → (j : ℕ) → j < n → test (all_but j s) ≡ false
unfolding first_cut
none_passes test z s zero e j l = absurd (omega arith)
none_passes test z s (suc n) e j l =
    by (test (all_but n s))
    (λ t. clash (rw (is_none (all_but n s) (rw (t, first_cut) at e)) at t) z)
    (λ t.
    by (eqb j n)
    (λ w. rw (eqb-true j n w) t)
    (λ w. none_passes test z s n (rw (t, first_cut) at e) j (omega (arith, eqb-false j n w))))

-- what it finds passes, and begins the name
pub record Found (test : List ℕ → Bool) (s w : List ℕ) : Type 0 where
  pub passes : test w ≡ true
  pub rest : List ℕ
  pub joined : w ++ rest ≡ s

pub found : (test : List ℕ → Bool) (s : List ℕ) (n : ℕ) → none (first_cut test n s) ≡ false → Found test s (first_cut test n s)
unfolding first_cut
found test s zero e = never (sym e)
found test s (suc n) e =
    by (test (all_but n s))
    (λ t. rw (t, first_cut) (record { passes = t; rest = drop (length s - n) s; joined = take-append-drop (length s - n) s }))
    (λ t. rw (t, first_cut) (found test s n (rw (t, first_cut) at e)))

-- a text that begins another, which has at most `n` bytes more
pub record Part (c s : List ℕ) (n : ℕ) : Type 0 where
  pub rest : List ℕ
  pub joined : c ++ rest ≡ s
  pub few : length rest ≤ n

-- it is one of the tries
pub part_cut : (c s : List ℕ) {n : ℕ} (t : Part c s n) → all_but (length t.rest) s ≡ c
part_cut c s t =
    let k : length s - length t.rest ≡ length c = omega (arith, length-append c t.rest, ap length t.joined) in
    rw (k, ← t.joined) (take-append_seam c t.rest)

part_on : (b : ℕ) (c s : List ℕ) (n : ℕ) → Part c s n → Part (b ∷ c) (b ∷ s) n
part_on b c s n p = record { rest = p.rest; joined = ap (λ (l : List ℕ). b ∷ l) p.joined; few = p.few }

-- the fillings begin one another
filled_part : (x : ℕ) (u v q : List ℕ) → Part (filled x u q) (filled x (u ++ v) q) (length v)
unfolding filled
filled_part x u v [] = record { rest = []; joined = refl; few = omega arith }
filled_part x u v (c ∷ q) =
    by (eqb c 35)
    (λ e. rw (e, filled) (record { rest = v; joined = refl; few = omega arith }))
    (λ e. rw (e, filled) (part_on _ _ _ _ (filled_part x u v q)))

-- the longest of them is the sample
sample-filled : (x : ℕ) (q : List ℕ) → sample x q ≡ filled x (x ∷ 47 ∷ x ∷ []) q
unfolding sample filled
sample-filled x [] = refl
sample-filled x (c ∷ q) = by (eqb c 35) (λ e. rw (e, sample, filled)) (λ e. rw (e, sample, filled, sample-filled x q))

pub part_of : (x : ℕ) (u v q : List ℕ) → u ++ v ≡ x ∷ 47 ∷ x ∷ [] → length v ≤ 4 → Part (filled x u q) (sample x q) 4
part_of x u v q e l =
    let t : Part (filled x u q) (filled x (x ∷ 47 ∷ x ∷ []) q) (length v) = rw e at (filled_part x u v q) in
    rw (sample-filled x q) (record { rest = t.rest; joined = t.joined; few = omega (arith, t.few) })

-- and so does what stands before `#` or `/#`
sample_three : (x : ℕ) (q : List ℕ) → starts_with 35 q ≡ true → length (sample x q) ≡ 3
unfolding sample
sample_three x [] b = never b
sample_three x (c ∷ q) b = rw (b, sample)

pub cut_part : (x : ℕ) (q : List ℕ) → Part (cut x q) (sample x q) 4
unfolding cut sample takes_none
cut_part x [] = record { rest = []; joined = refl; few = omega arith }
cut_part x (c ∷ q) =
    by (eqb c 35)
    (λ e. rw (e, cut, takes_none, sample) (record { rest = x ∷ 47 ∷ x ∷ []; joined = refl; few = omega arith }))
    (λ e.
    by (eqb c 47 && starts_with 35 q)
    (λ b.
    let three = sample_three x q (both (eqb c 47) (starts_with 35 q) b).1 in
    rw (e, b, cut, takes_none, sample) (record { rest = cond (eqb c 43) x c ∷ sample x q; joined = refl; few = omega arith }))
    (λ b. rw (e, b, cut, takes_none, sample) (part_on _ _ _ _ (cut_part x q))))
