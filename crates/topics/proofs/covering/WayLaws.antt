-- What the functions of `covering` see at one place: one law for each way out of them and round their loops, with the branches' facts as premises. Assumes nothing.
use Rattle.std.proofs.Common.{◌≡◌, ℕ, zero, suc, ◌+◌, ◌-◌, ◌<◌, ◌≤◌, min, Bool, true, false, cond, eqb, List, [], ◌∷◌, ◌++◌, length, get_or, take, drop, set, sym, refl}
use Rattle.std.proofs.Common.{ap, ◌∙◌, add-one, arith, drop_of_length-le, length-take, take-take, eq-eqb, ne_eqb}
use lib.Seq.{sets, sets-eq, length-sets, take-append_seam}
use Rattle.laws.proofs.Cases.{by}
use Rattle.laws.proofs.Lists.{take_like}
use Rattle.slices.proofs.bytes.WalkLaws.{opened}
use Rattle.topics.specs.Covering.{only_later, sample, all_but, first_cut, tried_with}
use Rattle.topics.proofs.covering.SampleLaws.{sample-length}

-- the search through the tries
module _ (test : List ℕ → Bool) (s : List ℕ) where
  turn : (left : ℕ) → 0 < left → first_cut test left s ≡ cond (test (all_but (left - 1) s)) (all_but (left - 1) s) (first_cut test (left - 1) s)
  unfolding first_cut
  turn zero l = absurd (omega arith)
  turn (suc n) l = let z : suc n - 1 ≡ n = omega arith in rw z (by (test (all_but n s)) (λ e. rw (e, first_cut)) (λ e. rw (e, first_cut)))

  module _ (left : ℕ) (some : 0 < left) {k : ℕ} (size : k ≡ length s - (left - 1)) (inv : first_cut test left s ≡ first_cut test 5 s) where
    pub cut_here : test (take k s) ≡ true → take k s ≡ first_cut test 5 s
    cut_here e = rw size (sym (turn left some ∙ rw (rw size at e)) ∙ inv)

    pub cut_on : test (take k s) ≡ false → first_cut test (left - 1) s ≡ first_cut test 5 s
    cut_on e = sym (turn left some ∙ rw (rw size at e)) ∙ inv

pub cut_over : (test : List ℕ → Bool) (s : List ℕ) (left : ℕ) → left ≤ 0 → [] ≡ first_cut test left s
unfolding first_cut
cut_over test s zero l = refl
cut_over test s (suc n) l = absurd (omega arith)

-- the sample of what is left of a pattern
module _ (x : ℕ) (q : List ℕ) (i : ℕ) where
  sample_end : length q ≤ i → sample x (drop i q) ≡ []
  unfolding sample
  sample_end l = rw (drop_of_length-le q l)

  module _ (l : i < length q) where
    sample_hash : get_or q i 0 ≡ 35 → sample x (drop i q) ≡ x ∷ 47 ∷ x ∷ []
    unfolding sample
    sample_hash e = rw (opened q i l, eq-eqb _ _ e, sample)

    sample_on : (get_or q i 0 ≡ 35 → ⊥) → sample x (drop i q) ≡ cond (eqb (get_or q i 0) 43) x (get_or q i 0) ∷ sample x (drop (i + 1) q)
    unfolding sample
    sample_on e = rw (opened q i l, ne_eqb _ _ e, sample)

-- what is left to write of a sample
pub record Left (x : ℕ) (q d₀ d : List ℕ) (i : ℕ) : Type 0 where
  pub count : i + length (sample x (drop i q)) ≡ length (sample x q)
  pub bytes : sets d i (sample x (drop i q)) ≡ sets d₀ 0 (sample x q)

module _ (x : ℕ) (q : List ℕ) {d₀ d : List ℕ} {i : ℕ} (left : Left x q d₀ d i) where
  pub left_end : length q ≤ i → (i ≡ length (sample x q)) × (d ≡ sets d₀ 0 (sample x q))
  left_end l =
      let n = left.count in
      let e = sample_end x q i l in
      (omega (arith, ap length e), (rw e at left.bytes))

  pub left_hash : i < length q → get_or q i 0 ≡ 35
      → (i + 3 ≡ length (sample x q)) × (set (set (set d i x) (i + 1) 47) (i + 2) x ≡ sets d₀ 0 (sample x q))
  left_hash l h =
      let e = sample_hash x q i l h in
      let two : i + 2 ≡ suc (suc i) = omega arith in
      ((rw e at left.count), rw (add-one, two) (rw e at left.bytes))

  pub left_on : {b : ℕ} → i < length q → (get_or q i 0 ≡ 35 → ⊥) → b ≡ cond (eqb (get_or q i 0) 43) x (get_or q i 0) → Left x q d₀ (set d i b) (i + 1)
  left_on l h b =
      let e = sample_on x q i l h in
      record { count = omega (arith, (rw e at left.count)); bytes = rw (b, add-one i) (rw (e, add-one i) at left.bytes) }

-- the sample of a pattern's first 64 bytes, at the beginning of a buffer
pub record Sampled (x : ℕ) (q : List ℕ) (r : ℕ) (e : List ℕ) : Type 0 where
  pub long : length e ≡ 128
  pub fits : r ≤ 128
  pub front : take r e ≡ sample x (take 64 q)

pub sampled_front : (x : ℕ) (q d : List ℕ) {n r : ℕ} {e : List ℕ} → n ≡ min (length q) 64 → length d ≡ 128 → r ≡ length (sample x (take n q))
    → e ≡ sets d 0 (sample x (take n q)) → Sampled x q r e
sampled_front x q d {n} {r} {e} k l m w =
    let s = sample x (take n q) in
    let short : length s ≤ 66 = omega (arith, sample-length x (take n q), length-take n q) in
    let whole : sets d 0 s ≡ s ++ drop (0 + length s) d = sets-eq s d 0 (omega arith) in
    record {
      long = rw w (length-sets d 0 s ∙ l);
      fits = omega arith;
      front = rw (w, whole, m, take-append_seam s (drop (0 + length s) d), take_like q n 64 (omega arith));
    }

-- the try that was found there
pub tried_front : (f d : Bool) (x : ℕ) (p q : List ℕ) {r : ℕ} {e : List ℕ} {k : ℕ} → Sampled x q r e → k ≤ length (take r e)
    → take k (take r e) ≡ first_cut (only_later f d p q) 5 (take r e) → take k e ≡ tried_with x f d p q
unfolding tried_with
tried_front f d x p q {r} {e} {k} s l m =
    sym (take-take k r e (omega (arith, length-take r e))) ∙ m ∙ rw s.front
