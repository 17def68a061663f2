-- The bucket table stays sound: all free at the start, under a removal, and under the limiter's decision on a topic. A message of a held
-- identity keeps it; a newcomer's was not held. Assumes nothing.
use mathlib.Core.Bool.{Bool, true, false, true≢false, false≢true}
use mathlib.Core.List.{List}
use mathlib.Core.Path.{◌≡◌, refl, sym, ◌∙◌}
use Prim.Native.Nat.{ℕ, ◌≤◌, ◌<◌}
use native.Mathlib.Omega.{arith}
use lib.ListN.{length, set, replicate, length-set, get_or-replicate}
use Rattle.laws.proofs.Tests.{both}
use Rattle.laws.proofs.Lists.{each, pairs}
use Rattle.tables.specs.Buckets.{holds_bucket, spend, made, decide, no_bucket, empty_bucket}
use Rattle.tables.specs.Identity.{id_of, is_of}
use Rattle.tables.specs.declared.buckets.RateBucket.{RateBucket}
use Rattle.tables.proofs.buckets.BucketLaws.{keeps}
use Rattle.tables.proofs.buckets.StepLaws.{bucket_at, stored, first, Absent, Step, hit, put, step}
use Rattle.monitor.specs.Sound.{same_id, SoundBuckets}
use Rattle.monitor.proofs.SoundIds.{prefix_long, new_first, new_last}

-- two buckets are not both live with one identity
abbrev Apart : RateBucket → RateBucket → Type 0
Apart a b = a.active ≡ true → b.active ≡ true → same_id a.id b.id ≡ false

-- a bucket that may stand in a sound table
record SoundBucket (b : RateBucket) : Type 0 where
  free : b.active ≡ false → b ≡ empty_bucket
  long : length b.id.prefix ≡ 32
  full : b.tokens ≤ b.capacity
  rest : b.remainder ≤ 999999

-- all free
pub buckets_fresh : SoundBuckets (replicate 32 empty_bucket)
buckets_fresh =
    record {
      size = refl;
      free = λ i h e. get_or-replicate 32 i empty_bucket no_bucket h;
      long = λ i h. rw (get_or-replicate 32 i empty_bucket no_bucket h);
      full = λ i h. rw (get_or-replicate 32 i empty_bucket no_bucket h) (omega arith);
      rest = λ i h. rw (get_or-replicate 32 i empty_bucket no_bucket h) (omega arith);
      apart = λ i j l h e f. absurd (false≢true (rw (get_or-replicate 32 j empty_bucket no_bucket h) at f));
    }

-- a bucket stored that is sound and apart from the others
module _ {T : List RateBucket} (s : SoundBuckets T) (k : ℕ) (x : RateBucket) (h : k < 32) where
  within : k < length T
  within = let e = s.size in omega arith

  store : SoundBucket x → ((i : ℕ) → i < k → Apart (bucket_at T i) x) → ((j : ℕ) → k < j → j < 32 → Apart x (bucket_at T j)) → SoundBuckets (set T k x)
  store b before after =
      record {
        size = length-set T k x ∙ s.size;
        free = each no_bucket T k x within (λ i b. i < 32 → b.active ≡ false → b ≡ empty_bucket) (λ l. b.free) (λ j n. s.free j);
        long = each no_bucket T k x within (λ i b. i < 32 → length b.id.prefix ≡ 32) (λ l. b.long) (λ j n. s.long j);
        full = each no_bucket T k x within (λ i b. i < 32 → b.tokens ≤ b.capacity) (λ l. b.full) (λ j n. s.full j);
        rest = each no_bucket T k x within (λ i b. i < 32 → b.remainder ≤ 999999) (λ l. b.rest) (λ j n. s.rest j);
        apart = pairs no_bucket T k x within Apart 32 (λ i l m. before i l) after (λ i j m n. s.apart i j);
      }

-- a place made free
pub bucket_removed : {T : List RateBucket} → SoundBuckets T → (k : ℕ) → k < 32 → SoundBuckets (set T k empty_bucket)
bucket_removed s k h =
    store s k empty_bucket h
    (record { free = λ e. refl; long = refl; full = omega arith; rest = omega arith })
    (λ i l e f. absurd (false≢true f))
    (λ j l m e f. absurd (false≢true e))

-- a new bucket has at most its rate
first_full : (ok : Bool) (rate : ℕ) → first ok rate ≤ rate
first_full true rate = omega arith
first_full false rate = omega arith

module _ (t : List ℕ) (rate now : ℕ) where
  -- a live bucket that does not hold the identity answers to another
  away : {T : List RateBucket} → Absent (id_of t) T → (j : ℕ) → (bucket_at T j).active ≡ true → is_of (id_of t) (bucket_at T j).id ≡ false
  unfolding holds_bucket
  away a j e = rw e at (a.none j)

  holder : (b : RateBucket) → holds_bucket (id_of t) b ≡ true → b.active ≡ true
  unfolding holds_bucket
  holder b e = (both b.active (is_of (id_of t) b.id) e).0

  stepped : {T T' : List RateBucket} {ok : Bool} → SoundBuckets T → Step T (id_of t) rate now T' ok → SoundBuckets T'
  stepped {T} s (hit i l e) =
      let z = s.size in
      let h : i < 32 = omega arith in
      let b = bucket_at T i in
      let live = holder b e in
      let k = keeps b now in
      store s i (spend b now).bucket h
      (record {
        free = λ f. absurd (true≢false (sym live ∙ sym k.live ∙ f));
        long = rw k.id (s.long i h);
        full = k.full;
        rest = k.rest;
      })
      (λ j m f g. rw k.id (s.apart j i m h f live))
      (λ j m n f g. rw k.id (s.apart i j m n live g))
  stepped {T} s (put i ok l a seat) =
      let z = s.size in
      let h : i < 32 = omega arith in
      store s i (made (id_of t) rate (first ok rate) now) h
      (record { free = λ f. absurd (true≢false f); long = prefix_long t; full = first_full ok rate; rest = omega arith })
      (λ j m f g. new_last (id_of t) (bucket_at T j).id (away a j f))
      (λ j m n f g. new_first (id_of t) (bucket_at T j).id (away a j g))

  -- a message of a topic
  pub buckets_after : {T : List RateBucket} → SoundBuckets T → SoundBuckets (stored T (decide T (id_of t) rate now))
  buckets_after {T} s = let z = s.size in stepped s (step T (id_of t) rate now (omega arith))
