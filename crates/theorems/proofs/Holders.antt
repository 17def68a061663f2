-- Whose a bucket is. In a table that only messages changed, every live bucket has the identity of a topic; then a bucket answers to one identity only, and to all that
-- ask for it alike. Assumes nothing.
use mathlib.Core.Bool.{Bool, true, false, ◌&&◌, false≢true}
use mathlib.Core.List.{List}
use mathlib.Core.Path.{◌≡◌, refl, sym, ◌∙◌}
use Prim.Native.Nat.{ℕ}
use Rattle.laws.proofs.Tests.{both}
use Rattle.laws.proofs.Lists.{each}
use Rattle.tables.specs.Buckets.{no_bucket, holds_bucket, spend, made}
use Rattle.tables.specs.Identity.{is_of}
use Rattle.tables.specs.declared.identity.Id.{Id}
use Rattle.tables.specs.declared.buckets.RateBucket.{RateBucket}
use Rattle.tables.proofs.buckets.BucketLaws.{keeps}
use Rattle.tables.proofs.identity.IdentityLaws.{OfTopic, of_true, of_like}
use Rattle.tables.proofs.buckets.StepLaws.{first, bucket_at, Absent, Step, hit, put}

-- two opposite answers
pub clash : {P : Type 0} {c : Bool} → c ≡ true → c ≡ false → P
clash p q = absurd (false≢true (sym q ∙ p))

-- every live bucket has the identity of a topic
pub record Named (T : List RateBucket) : Type 0 where
  pub name : (j : ℕ) → (bucket_at T j).active ≡ true → OfTopic (bucket_at T j).id

-- a bucket that a message spent from is whose it was
pub same_holder : (x : Id) (b : RateBucket) (t : ℕ) → holds_bucket x (spend b t).bucket ≡ holds_bucket x b
unfolding holds_bucket
same_holder x b t = let k = keeps b t in rw (k.live, k.id)

-- a held bucket is live
pub held_live : (x : Id) (b : RateBucket) → holds_bucket x b ≡ true → b.active ≡ true
unfolding holds_bucket
held_live x b h = (both b.active (is_of x b.id) h).0

-- a free place is no one's
pub no_holder : (x : Id) (b : RateBucket) → b.active ≡ false → holds_bucket x b ≡ false
unfolding holds_bucket
no_holder x b e = rw e

-- a bucket made for a message is of whoever answers to its identity
pub made_holder : (x y : Id) (rate n t : ℕ) → holds_bucket x (made y rate n t) ≡ is_of x y
unfolding holds_bucket
made_holder x y rate n t = refl

module _ {T : List RateBucket} (n : Named T) (x : Id) {y : Id} (o : OfTopic y) where
  -- a bucket of another identity is not this one's
  pub not_mine : is_of x y ≡ false → (j : ℕ) → holds_bucket y (bucket_at T j) ≡ true → holds_bucket x (bucket_at T j) ≡ false
  unfolding holds_bucket
  not_mine e j h =
      let p = both (bucket_at T j).active (is_of y (bucket_at T j).id) h in
      let q : y ≡ (bucket_at T j).id = of_true o (n.name j p.0) p.1 in
      rw (p.0, sym q) e

  -- this identity's buckets are those of whoever answers to it
  pub mine : is_of x y ≡ true → (j : ℕ) → holds_bucket x (bucket_at T j) ≡ holds_bucket y (bucket_at T j)
  unfolding holds_bucket
  mine e j = go (bucket_at T j).active refl
    where
      go : (c : Bool) → (bucket_at T j).active ≡ c → c && is_of x (bucket_at T j).id ≡ c && is_of y (bucket_at T j).id
      go true a = of_like x o (n.name j a) e
      go false a = refl

  pub absent_mine : is_of x y ≡ true → Absent y T → Absent x T
  absent_mine e a = record { none = λ j. mine e j ∙ a.none j }

  -- another's message does not bring it in
  pub absent_other : {rate t : ℕ} {T' : List RateBucket} {ok : Bool} → is_of x y ≡ false → Absent x T → Step T y rate t T' ok → Absent x T'
  absent_other {t = t} e a (hit i l h) =
      record { none = each no_bucket T i (spend (bucket_at T i) t).bucket l (λ j b. holds_bucket x b ≡ false) (same_holder x (bucket_at T i) t ∙ a.none i) (λ j _. a.none j) }
  absent_other {rate} {t} e a (put i ok l v s) =
      record { none = each no_bucket T i (made y rate (first ok rate) t) l (λ j b. holds_bucket x b ≡ false) (made_holder x y rate (first ok rate) t ∙ e) (λ j _. a.none j) }

-- messages keep it so
pub names : {T : List RateBucket} → Named T → {y : Id} → OfTopic y → {rate t : ℕ} {T' : List RateBucket} {ok : Bool} → Step T y rate t T' ok → Named T'
names {T} n o {rate} {t} (hit i l h) =
    let k = keeps (bucket_at T i) t in
    record { name = each no_bucket T i (spend (bucket_at T i) t).bucket l (λ j b. b.active ≡ true → OfTopic b.id) (λ a. rw k.id (n.name i (sym k.live ∙ a))) (λ j _. n.name j) }
names {T} n o (put i ok l a s) =
    record { name = each no_bucket T i _ l (λ j b. b.active ≡ true → OfTopic b.id) (λ _. o) (λ j _. n.name j) }
