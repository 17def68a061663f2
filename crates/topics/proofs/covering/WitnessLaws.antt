-- A name as it is handed back, by its length: 0 where there is none. Assumes nothing.
use Rattle.std.proofs.Common.{◌≡◌, ℕ, zero, suc, ◌-◌, ◌≤◌, Bool, eqb, List, [], ◌∷◌, length, take, refl, arith, length-take, ne_eqb}
use Rattle.laws.specs.Lists.{none}
use Rattle.laws.proofs.Cases.{by}
use Rattle.topics.specs.Covering.{only_later, all_but, first_cut, tried_with, or_else, witness, sample, as_witness}
use Rattle.topics.proofs.covering.SampleLaws.{sample-length}

-- the first of two names
pub witness_first : (l m : List ℕ) → ((as_witness l).len ≡ 0 → ⊥) → as_witness l ≡ as_witness (or_else l m)
unfolding as_witness
witness_first [] m z = absurd (z refl)
witness_first (x ∷ l) m z = refl

pub witness_second : (l m : List ℕ) → (as_witness l).len ≡ 0 → as_witness m ≡ as_witness (or_else l m)
unfolding as_witness
witness_second [] m z = refl
witness_second (x ∷ l) m z = absurd (omega arith)

-- none is found exactly where the length is 0
pub witness_none : (w : List ℕ) → eqb (as_witness w).len 0 ≡ none w
unfolding as_witness
witness_none [] = refl
witness_none (x ∷ w) = ne_eqb (length (x ∷ w)) 0 (λ e. omega arith)

-- it is no longer than a sample, so it fits
cut_short : (test : List ℕ → Bool) (n : ℕ) (s : List ℕ) → length (first_cut test n s) ≤ length s
unfolding first_cut
cut_short test zero s = omega arith
cut_short test (suc n) s =
    by (test (all_but n s)) (λ e. rw (e, first_cut) (omega (arith, length-take (length s - n) s))) (λ e. rw (e, first_cut) (cut_short test n s))

tried_short : (x : ℕ) (f d : Bool) (p q : List ℕ) → length (tried_with x f d p q) ≤ 66
unfolding tried_with
tried_short x f d p q = omega (arith, cut_short (only_later f d p q) 5 (sample x (take 64 q)), sample-length x (take 64 q), length-take 64 q)

else_short : (l m : List ℕ) → length l ≤ 66 → length m ≤ 66 → length (or_else l m) ≤ 66
else_short [] m h g = g
else_short (x ∷ l) m h g = h

pub witness_fits : (f d : Bool) (p q : List ℕ) → (as_witness (witness f d p q)).len ≤ 66
unfolding witness as_witness
witness_fits f d p q = else_short (tried_with 97 f d p q) (tried_with 98 f d p q) (tried_short 97 f d p q) (tried_short 98 f d p q)
