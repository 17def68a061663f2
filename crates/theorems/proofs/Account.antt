-- The lower half's account of one identity, as an equation: what passed since counting began, with what its bucket holds, is a whole bucket and what the time earned. A message of the identity goes
-- on with it, or, where its refill was cut at the capacity, begins a new one; a denial leaves less than one token. While there is room for all, messages of others keep it. As proofs/Budget.antt has
-- it for the upper half, where it is at most that, and others may replace the bucket. Assumes nothing.
use mathlib.Core.Bool.{Bool, true, false}
use mathlib.Core.List.{List}
use mathlib.Core.Logic.{◌⊎◌, inl, inr, ⊎_elim}
use mathlib.Core.Path.{◌≡◌, refl, sym, ap, ◌∙◌}
use Prim.Native.Nat.{ℕ, ◌+◌, ◌*◌, ◌<◌, ◌≤◌}
use native.Mathlib.Omega.{arith}
use lib.ListN.{length, set, length-set}
use lib.Seq.{get_or-set_same, get_or-set_other}
use Rattle.laws.proofs.Tests.{fails}
use Rattle.laws.proofs.Lists.{each}
use Rattle.tables.specs.Buckets.{spend, no_bucket, holds_bucket, made}
use Rattle.tables.specs.Identity.{is_of}
use Rattle.tables.specs.declared.identity.Id.{Id}
use Rattle.tables.specs.declared.buckets.RateBucket.{RateBucket}
use Rattle.tables.proofs.buckets.BucketLaws.{level, one, Good, spends, exactly, makes, wait}
use Rattle.tables.proofs.identity.IdentityLaws.{OfTopic}
use Rattle.tables.proofs.buckets.StepLaws.{bucket_at, Absent, first, Step, hit, put}
use Rattle.theorems.specs.Run.{noted}
use Rattle.theorems.proofs.Holders.{clash, Named, same_holder, no_holder, made_holder, not_mine, mine, absent_mine}
use Rattle.theorems.proofs.Seats.{Seats, free_seat, newcomer_room}

-- the identity's one bucket, and its account: `u` is what passed since counting began, and rate x the time when it did
pub data Account (x : Id) (R : ℕ) (T : List RateBucket) (now u : ℕ) : Type 0 where
  there :
      (i : ℕ) (b : RateBucket) → i < length T → bucket_at T i ≡ b → holds_bucket x b ≡ true → ((j : ℕ) → holds_bucket x (bucket_at T j) ≡ true → j ≡ i)
      → Good R now b → u + level b ≡ 1000000 * R + R * b.last_refill_us → Account x R T now u

-- time goes on
pub quiet : {x : Id} {R : ℕ} {T : List RateBucket} {now t u : ℕ} → now ≤ t → Account x R T now u → Account x R T t u
quiet h (there i b l e m only g p) = there i b l e m only (wait g h) p

module _ (x : Id) {R : ℕ} (T : List RateBucket) (k : ℕ) (c : RateBucket) (q : k < length T) where
  -- the identity's bucket stored there, and none of its elsewhere
  place : (t u : ℕ) → holds_bucket x c ≡ true → ((j : ℕ) → (j ≡ k → ⊥) → holds_bucket x (bucket_at T j) ≡ false)
      → Good R t c → u + level c ≡ 1000000 * R + R * c.last_refill_us → Account x R (set T k c) t u
  place t u m away g h =
      there k c (rw length-set q) (get_or-set_same T k c no_bucket q) m
      (each no_bucket T k c q (λ j d. holds_bucket x d ≡ true → j ≡ k) (λ _. refl) (λ j z p. clash p (away j z))) g h

  -- another's bucket stored there
  beside : {now t u : ℕ} → now ≤ t → holds_bucket x c ≡ false → holds_bucket x (bucket_at T k) ≡ false → Account x R T now u → Account x R (set T k c) t u
  beside h nc nk (there i b l e m only g p) =
      let ne : k ≡ i → ⊥ = λ z. clash m (sym (ap (λ j. holds_bucket x (bucket_at T j)) z ∙ ap (holds_bucket x) e) ∙ nk) in
      there i b (rw length-set l) (get_or-set_other T k i c no_bucket (λ z. ne (sym z)) ∙ e) m
      (each no_bucket T k c q (λ j d. holds_bucket x d ≡ true → j ≡ i) (λ z. clash z nc) (λ j _. only j)) (wait g h) p

-- what a message of the identity makes of its account: it goes on, or begins anew; a denial leaves no room
pub record After (x : Id) (R : ℕ) (T' : List RateBucket) (t u : ℕ) (ok : Bool) : Type 0 where
  pub goes : Account x R T' t (u + 1000000 * one ok) ⊎ Account x R T' t (R * t + 1000000 * one ok)
  pub room : ok ≡ false → 1000000 * R + R * t < u + 1000000

module _ {T : List RateBucket} (n : Named T) (x : Id) {R : ℕ} {y : Id} (o : OfTopic y) {t : ℕ} where
  -- a message of the identity itself
  pub own : {now u : ℕ} {T' : List RateBucket} {ok : Bool} → is_of x y ≡ true → 0 < R → now ≤ t → Account x R T now u → Step T y R t T' ok → After x R T' t u ok
  own {now} {u} s pos h (there i b l e m only g p) (hit k q w) =
      let r : k ≡ i = only k (mine n x o s k ∙ w) in
      let d : bucket_at T k ≡ b = ap (λ j. bucket_at T j) r ∙ e in
      let f = wait g h in
      let v = exactly R t b f in
      let away : (j : ℕ) → (j ≡ k → ⊥) → holds_bucket x (bucket_at T j) ≡ false = λ j z. fails _ (λ c. z (only j c ∙ sym r)) in
      let a : R * (spend b t).bucket.last_refill_us ≡ R * t = ap (λ (n : ℕ). R * n) v.now in
      rw d
      (record {
        goes =
            ⊎_elim
            (λ z. inl (place x T k (spend b t).bucket q t (u + 1000000 * one (spend b t).ok) (same_holder x b t ∙ m) away (spends R t b f).good (omega arith)))
            (λ z. inr (place x T k (spend b t).bucket q t (R * t + 1000000 * one (spend b t).ok) (same_holder x b t ∙ m) away (spends R t b f).good (omega arith)))
            v.sums;
        room =
            λ z. let w = v.less z in
            let none : one (spend b t).ok ≡ 0 = ap one z in
            ⊎_elim (λ j. omega arith) (λ j. omega arith) v.sums;
      })
  own s pos h (there i b l e m only g p) (put k ok q a w) = clash m (rw e at ((absent_mine n x o s a).none i))

  -- its first message
  pub begins : {T' : List RateBucket} {ok : Bool} → is_of x y ≡ true → 0 < R → Absent x T → ok ≡ true → Step T y R t T' ok → Account x R T' t (R * t + 1000000)
  begins s pos a z (hit k q w) = clash w (sym (mine n x o s k) ∙ a.none k)
  begins s pos a z (put k true q v w) =
      place x T k (made y R (first true R) t) q t (R * t + 1000000) (made_holder x y R (first true R) t ∙ s) (λ j _. a.none j) (makes y R t true pos).good (omega arith)
  begins s pos a z (put k false q v w) = clash z refl

  -- a message of another, while there is room for all
  pub other : {now u rate : ℕ} {T' : List RateBucket} {ok : Bool} {l : List Id} → is_of x y ≡ false → now ≤ t → length T ≡ 32 → Seats T l → length (noted y l) ≤ 32
      → Account x R T now u → Step T y rate t T' ok → Account x R T' t u
  other s h z e f v (hit k q w) =
      let nc = not_mine n x o s k w in beside x T k (spend (bucket_at T k) t).bucket q h (same_holder x (bucket_at T k) t ∙ nc) nc v
  other {rate = rate} s h z e f v (put k ok q a seat) =
      let m = newcomer_room e o a in
      beside x T k (made y rate (first ok rate) t) q h (made_holder x y rate (first ok rate) t ∙ s) (no_holder x (bucket_at T k) (free_seat e (omega arith) seat).empty) v

-- a sum written otherwise
pub same_account : {x : Id} {R : ℕ} {T : List RateBucket} {now : ℕ} (u u' : ℕ) → u ≡ u' → Account x R T now u → Account x R T now u'
same_account u u' e v = rw (← e) v
