-- The upper half's invariant, and that every message keeps it; a place made free costs a whole bucket more, or nothing where the identity still has its bucket (request C-24). Accounts
-- are in millionths of a token: `u` is what was used (1,000,000 for each allowed message of the identity and rate x the time at which counting began), `B` the budget (one whole
-- bucket). Either the identity's one bucket is in the table, and what it holds is paid for or a whole bucket is to spare; or it was replaced when its time F was the least of all, and
-- no live bucket is older than F, so that a full grant has to wait for 300 seconds after F; or it is not there and a whole bucket is to spare. In each case `u` is at most
-- B + rate x now. Assumes nothing.
use mathlib.Core.Bool.{Bool, true, false, cond}
use mathlib.Core.List.{List}
use mathlib.Core.Logic.{◌⊎◌, inl, inr, ⊎_elim}
use mathlib.Core.Path.{◌≡◌, refl, sym, ap, ◌∙◌}
use Prim.Native.Nat.{ℕ, ◌+◌, ◌*◌, ◌<◌, ◌≤◌}
use native.Mathlib.Nat.{mul-le-mul_left}
use native.Mathlib.Omega.{arith}
use borrow.Author.Tests.{eqb-true, eqb-false}
use lib.Dec.{eqb}
use lib.ListN.{length, set, length-set}
use lib.Seq.{get_or-set_same, get_or-set_other}
use Rattle.laws.proofs.Tests.{fails}
use Rattle.laws.proofs.Cases.{by}
use Rattle.laws.proofs.Lists.{each}
use Rattle.tables.specs.Buckets.{no_bucket, empty_bucket, holds_bucket, spend, made, is_expired}
use Rattle.tables.specs.Identity.{is_of}
use Rattle.tables.specs.Scan.{find}
use Rattle.tables.specs.declared.identity.Id.{Id}
use Rattle.tables.specs.declared.buckets.RateBucket.{RateBucket}
use Rattle.tables.proofs.buckets.BucketLaws.{level, one, Good, spends, makes, keeps, wait}
use Rattle.tables.proofs.identity.IdentityLaws.{OfTopic}
use Rattle.tables.proofs.ScanLaws.{find-lt}
use Rattle.tables.proofs.buckets.StepLaws.{bucket_at, time_at, Absent, free, worn, first, Step, hit, put, expired}
use Rattle.theorems.proofs.Holders.{clash, Named, same_holder, held_live, no_holder, made_holder, not_mine, mine, absent_mine, absent_other}

pub data Inv (x : Id) (R : ℕ) (T : List RateBucket) (now u B : ℕ) : Type 0 where
  held :
      (i : ℕ) (b : RateBucket) → i < length T → bucket_at T i ≡ b → holds_bucket x b ≡ true → ((j : ℕ) → holds_bucket x (bucket_at T j) ≡ true → j ≡ i)
      → Good R now b → (u + level b ≤ B + R * b.last_refill_us) ⊎ (u + 1000000 * R ≤ B + R * now) → Inv x R T now u B
  gone :
      (F : ℕ) → Absent x T → F ≤ now → ((j : ℕ) → j < length T → (bucket_at T j).active ≡ true) → ((j : ℕ) → j < length T → F ≤ time_at T j)
      → u ≤ B + R * F → Inv x R T now u B
  spare : Absent x T → u + 1000000 * R ≤ B + R * now → Inv x R T now u B

module _ {x : Id} {R : ℕ} {T : List RateBucket} where
  -- what was used is paid for
  pub bounded : {now u B : ℕ} → Inv x R T now u B → u ≤ B + R * now
  bounded {now} (held i b l e m only g (inl h)) = omega (arith, mul-le-mul_left R g.past)
  bounded (held i b l e m only g (inr h)) = omega arith
  bounded (gone F a f live low h) = omega (arith, mul-le-mul_left R f)
  bounded (spare a h) = omega arith

  -- time goes on
  pub quiet : {now t u B : ℕ} → now ≤ t → Inv x R T now u B → Inv x R T t u B
  quiet h (held i b l e m only g (inl p)) = held i b l e m only (wait g h) (inl p)
  quiet h (held i b l e m only g (inr p)) = held i b l e m only (wait g h) (inr (omega (arith, mul-le-mul_left R h)))
  quiet h (gone F a f live low p) = gone F a (omega arith) live low p
  quiet h (spare a p) = spare a (omega (arith, mul-le-mul_left R h))

  -- counting begins anew, at any time
  pub reopen : {now u B : ℕ} → Inv x R T now u B → Inv x R T now (R * now) (1000000 * R)
  reopen (held i b l e m only g p) = held i b l e m only g (inr (omega arith))
  reopen (gone F a f live low p) = spare a (omega arith)
  reopen (spare a p) = spare a (omega arith)

-- one store, of a bucket that is the identity's or is not
module _ (x : Id) (T : List RateBucket) (k : ℕ) (c : RateBucket) (q : k < length T) where
  -- a bucket of another, where the identity has none
  still_absent : holds_bucket x c ≡ false → ((j : ℕ) → (j ≡ k → ⊥) → holds_bucket x (bucket_at T j) ≡ false) → Absent x (set T k c)
  still_absent nc away = record { none = each no_bucket T k c q (λ j d. holds_bucket x d ≡ false) nc away }

  -- the identity's one bucket
  place : {R : ℕ} (t u B : ℕ) → holds_bucket x c ≡ true → ((j : ℕ) → (j ≡ k → ⊥) → holds_bucket x (bucket_at T j) ≡ false)
      → Good R t c → u + level c ≤ B + R * c.last_refill_us → Inv x R (set T k c) t u B
  place t u B m away g h =
      held k c (rw length-set q) (get_or-set_same T k c no_bucket q) m
      (each no_bucket T k c q (λ j d. holds_bucket x d ≡ true → j ≡ k) (λ _. refl) (λ j z p. clash p (away j z))) g (inl h)

  -- a bucket of another, beside the identity's
  beside : {R now t u B : ℕ} (i : ℕ) (b : RateBucket) → i < length T → bucket_at T i ≡ b → holds_bucket x b ≡ true
      → ((j : ℕ) → holds_bucket x (bucket_at T j) ≡ true → j ≡ i) → Good R now b → now ≤ t → holds_bucket x c ≡ false → (k ≡ i → ⊥)
      → (u + level b ≤ B + R * b.last_refill_us) ⊎ (u + 1000000 * R ≤ B + R * now) → Inv x R (set T k c) t u B
  beside {R} i b l e m only g h nc ne p =
      held i b (rw length-set l) (get_or-set_other T k i c no_bucket (λ z. ne (sym z)) ∙ e) m
      (each no_bucket T k c q (λ j d. holds_bucket x d ≡ true → j ≡ i) (λ z. clash z nc) (λ j _. only j)) (wait g h)
      (⊎_elim (λ a. inl a) (λ a. inr (omega (arith, mul-le-mul_left R h))) p)

  still_gone : {R t u B : ℕ} (F : ℕ) → Absent x (set T k c) → F ≤ t → ((j : ℕ) → j < length T → (bucket_at T j).active ≡ true) → ((j : ℕ) → j < length T → F ≤ time_at T j)
      → c.active ≡ true → F ≤ c.last_refill_us → u ≤ B + R * F → Inv x R (set T k c) t u B
  still_gone F a f live low on late p =
      gone F a f (rw length-set (each no_bucket T k c q (λ j d. j < length T → d.active ≡ true) (λ _. on) (λ j _. live j)))
      (rw length-set (each no_bucket T k c q (λ j d. j < length T → F ≤ d.last_refill_us) (λ _. late) (λ j _. low j))) p

-- a place made free
module _ (x : Id) (T : List RateBucket) (k : ℕ) (q : k < length T) where
  -- for nothing, where the identity still has its bucket
  pub spared : {R now u B : ℕ} → find (holds_bucket x) (set T k empty_bucket) < length (set T k empty_bucket) → Inv x R T now u B → Inv x R (set T k empty_bucket) now u B
  spared l v = keeps_it v
    where
      none_there : ((j : ℕ) → (j ≡ k → ⊥) → holds_bucket x (bucket_at T j) ≡ false) → Absent x (set T k empty_bucket)
      none_there = still_absent x T k empty_bucket q (no_holder x empty_bucket refl)

      not_gone : {P : Type 0} → Absent x (set T k empty_bucket) → P
      not_gone a = clash (find-lt (holds_bucket x) (set T k empty_bucket) no_bucket l) (a.none (find (holds_bucket x) (set T k empty_bucket)))

      keeps_it : {R now u B : ℕ} → Inv x R T now u B → Inv x R (set T k empty_bucket) now u B
      keeps_it (held i b l e m only g p) =
          by (eqb k i)
          (λ z. let r : k ≡ i = eqb-true k i z in not_gone (none_there (λ j ne. fails _ (λ c. ne (only j c ∙ sym r)))))
          (λ z. beside x T k empty_bucket q i b l e m only g (omega arith) (no_holder x empty_bucket refl) (eqb-false k i z) p)
      keeps_it (gone F a f live low p) = not_gone (none_there (λ j _. a.none j))
      keeps_it (spare a p) = not_gone (none_there (λ j _. a.none j))

-- a table without the identity's bucket, whatever became of it: for one whole bucket more
pub cleared : {x : Id} {R : ℕ} {T T' : List RateBucket} {now u B : ℕ} → Absent x T' → Inv x R T now u B → Inv x R T' now u (B + 1000000 * R)
cleared a v = spare a (omega (arith, bounded v))

-- an identity that comes back after it was replaced: an expired place is more than 300 seconds older than now
back : (R t F : ℕ) (b : RateBucket) (ok : Bool) (u B : ℕ) → u ≤ B + R * F → F ≤ b.last_refill_us → F ≤ t → (ok ≡ true → is_expired b t ≡ true)
    → u + cond ok (1000000 * R) 0 ≤ B + R * t
back R t F b true u B p low f e =
    let z = expired b t (e refl) in
    let c : R * (F + 1000000) ≤ R * t = mul-le-mul_left R (omega arith) in
    omega arith
back R t F b false u B p low f e = omega (arith, mul-le-mul_left R f)

module _ {T : List RateBucket} (n : Named T) (x : Id) {R : ℕ} {y : Id} (o : OfTopic y) {t : ℕ} where
  -- a new bucket of the identity: a whole one has to be paid for where the message is allowed
  fresh : (k : ℕ) (ok : Bool) (u B : ℕ) → is_of x y ≡ true → 0 < R → k < length T → Absent x T → u + cond ok (1000000 * R) 0 ≤ B + R * t
      → Inv x R (set T k (made y R (first ok R) t)) t (u + 1000000 * one ok) B
  fresh k ok u B s pos q a h =
      place x T k (made y R (first ok R) t) q t (u + 1000000 * one ok) B (made_holder x y R (first ok R) t ∙ s) (λ j _. a.none j) (makes y R t ok pos).good
      (omega (arith, (makes y R t ok pos).full))

  -- a message of the identity itself: it is counted if it is allowed
  pub own : {now u B : ℕ} {T' : List RateBucket} {ok : Bool}
      → is_of x y ≡ true → 0 < R → now ≤ t → Inv x R T now u B → Step T y R t T' ok → Inv x R T' t (u + 1000000 * one ok) B
  own {now} {u} {B} s pos h (held i b l e m only g p) (hit k q w) =
      let r : k ≡ i = only k (mine n x o s k ∙ w) in
      let d : bucket_at T k ≡ b = ap (λ j. bucket_at T j) r ∙ e in
      let law = spends R t b (wait g h) in
      let c = mul-le-mul_left R h in
      rw d
      (place x T k (spend b t).bucket q t (u + 1000000 * one (spend b t).ok) B (same_holder x b t ∙ m) (λ j z. fails _ (λ c. z (only j c ∙ sym r))) law.good
      (⊎_elim (λ a. omega (arith, law.keeps)) (λ a. omega (arith, law.starts)) p))
  own s pos h (held i b l e m only g p) (put k ok q a w) = clash m (rw e at ((absent_mine n x o s a).none i))
  own s pos h (gone F a f live low p) (hit k q w) = clash w (sym (mine n x o s k) ∙ a.none k)
  own s pos h (gone F a f live low p) (put k true q v (free z first_free)) = clash (live k q) z
  own {now} {u} {B} s pos h (gone F a f live low p) (put k ok q v (worn lives least e)) =
      fresh k ok u B s pos q a (back R t F (bucket_at T k) ok u B p (low k q) (omega arith) e)
  own s pos h (spare a p) (hit k q w) = clash w (sym (mine n x o s k) ∙ a.none k)
  own {now} {u} {B} s pos h (spare a p) (put k true q v w) = fresh k true u B s pos q a (omega (arith, mul-le-mul_left R h))
  own {now} {u} {B} s pos h (spare a p) (put k false q v w) = fresh k false u B s pos q a (omega (arith, mul-le-mul_left R h))

  -- a message of another
  pub other : {now u B rate : ℕ} {T' : List RateBucket} {ok : Bool}
      → is_of x y ≡ false → now ≤ t → Inv x R T now u B → Step T y rate t T' ok → Inv x R T' t u B
  other s h (held i b l e m only g p) (hit k q w) =
      let nc = not_mine n x o s k w in
      beside x T k (spend (bucket_at T k) t).bucket q i b l e m only g h (same_holder x (bucket_at T k) t ∙ nc)
      (λ z. clash m (sym (ap (λ j. holds_bucket x (bucket_at T j)) z ∙ ap (holds_bucket x) e) ∙ nc)) p
  other {rate = rate} s h (held i b l e m only g p) (put k ok q a (free z first_free)) =
      beside x T k (made y rate (first ok rate) t) q i b l e m only g h (made_holder x y rate (first ok rate) t ∙ s)
      (λ r. clash (held_live x b m) (ap (λ d. d.active) (sym e ∙ ap (λ j. bucket_at T j) (sym r)) ∙ z)) p
  other {rate = rate} s h (held i b l e m only g p) (put k ok q a (worn lives least w)) =
      by (eqb k i)
      (λ z.
      let r : k ≡ i = eqb-true k i z in
      let d : bucket_at T k ≡ b = ap (λ j. bucket_at T j) r ∙ e in
      let f : time_at T k ≡ b.last_refill_us = ap (λ c. c.last_refill_us) d in
      let v = still_absent x T k (made y rate (first ok rate) t) q (made_holder x y rate (first ok rate) t ∙ s) (λ j ne. fails _ (λ c. ne (only j c ∙ sym r))) in
      ⊎_elim
      (λ u. still_gone x T k (made y rate (first ok rate) t) q b.last_refill_us v (omega (arith, g.past)) lives (λ j l. omega (arith, least j l)) refl (omega (arith, g.past)) (omega arith))
      (λ u. spare v (omega (arith, mul-le-mul_left R h)))
      p)
      (λ z. beside x T k (made y rate (first ok rate) t) q i b l e m only g h (made_holder x y rate (first ok rate) t ∙ s) (eqb-false k i z) p)
  other {rate = rate} s h (gone F a f live low p) (hit k q w) =
      let v = keeps (bucket_at T k) t in
      still_gone x T k (spend (bucket_at T k) t).bucket q F (absent_other n x o {rate = rate} s a (hit k q w)) (omega arith) live low (v.live ∙ live k q)
      (omega (arith, low k q, v.later)) p
  other {rate = rate} s h (gone F a f live low p) (put k ok q v w) =
      still_gone x T k (made y rate (first ok rate) t) q F (absent_other n x o s a (put k ok q v w)) (omega arith) live low refl (omega arith) p
  other s h (spare a p) w = spare (absent_other n x o s a w) (omega (arith, mul-le-mul_left R h))
