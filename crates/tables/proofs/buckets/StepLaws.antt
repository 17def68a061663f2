-- What the limiter's decision makes of a table, as a relation: a message of a held identity spends at its place, and any other is put at a seat, which is free or
-- has the least refill time of all. Whoever reasons about tables goes by these two cases and never opens `decide`. Assumes nothing.
use mathlib.Core.Bool.{Bool, true, false, cond}
use mathlib.Core.List.{List}
use mathlib.Core.Path.{◌≡◌, refl}
use Prim.Native.Nat.{ℕ, ◌+◌, ◌-◌, ◌<◌, ◌≤◌}
use native.Mathlib.Omega.{arith}
use borrow.Author.Tests.{ltb-true, ltb-false, not-true, not-false}
use lib.Dec.{ltb}
use lib.ListN.{length, get_or, set, get_or-eq_default}
use Rattle.laws.proofs.Cases.{by}
use Rattle.tables.specs.Buckets.{no_bucket, is_expired, holds_bucket, spend, made, newcomer, decide}
use Rattle.tables.specs.Scan.{find, least_of, least_place, any}
use Rattle.tables.specs.declared.identity.Id.{Id}
use Rattle.tables.specs.declared.buckets.RateBucket.{RateBucket}
use Rattle.tables.specs.declared.buckets.RateDecision.{RateDecision}
use Rattle.tables.specs.declared.buckets.RateCheckResult.{RateCheckResult}
use Rattle.tables.specs.declared.buckets.RateCheckResult.TheVariants.{Allowed, Limited, EvictedAndDenied}
use Rattle.tables.proofs.buckets.PlaceLaws.{time_of, is_free, is_open, put_at, newcomer_put}
use Rattle.tables.proofs.ScanLaws.{find-lt, find_before, find_none, place_lt, place_least, seat-free, seat_least}

-- the bucket at a place
abbrev pub bucket_at : List RateBucket → ℕ → RateBucket
bucket_at T i = get_or T i no_bucket

-- its refill time
abbrev pub time_at : List RateBucket → ℕ → ℕ
time_at T i = time_of (bucket_at T i)

-- no place holds an identity
pub record Absent (id : Id) (T : List RateBucket) : Type 0 where
  pub none : (j : ℕ) → holds_bucket id (bucket_at T j) ≡ false

-- a place for a newcomer: the first free one, or, where all are live, one with the least refill time of all; allowed there only if it is expired
pub data Seat (T : List RateBucket) (t i : ℕ) : Bool → Type 0 where
  free : (bucket_at T i).active ≡ false → ((j : ℕ) → j < i → (bucket_at T j).active ≡ true) → Seat T t i true
  worn :
      {ok : Bool} → ((j : ℕ) → j < length T → (bucket_at T j).active ≡ true) → ((j : ℕ) → j < length T → time_at T i ≤ time_at T j)
      → (ok ≡ true → is_expired (bucket_at T i) t ≡ true) → Seat T t i ok

-- whether a decision lets its message pass
abbrev pub grants : RateCheckResult → Bool
grants Allowed = true
grants Limited = false
grants EvictedAndDenied = false

-- the table with a decision's bucket stored
abbrev pub stored : List RateBucket → RateDecision → List RateBucket
stored T d = set T d.at d.bucket

-- what a new bucket is left with, its message allowed or not
abbrev pub first : Bool → ℕ → ℕ
first ok rate = cond ok (rate - 1) 0

-- one message of an identity under a rate: the table after it, and whether it passes
pub data Step (T : List RateBucket) (id : Id) (rate t : ℕ) : List RateBucket → Bool → Type 0 where
  hit :
      (i : ℕ) → i < length T → holds_bucket id (bucket_at T i) ≡ true
      → Step T id rate t (set T i (spend (bucket_at T i) t).bucket) (spend (bucket_at T i) t).ok
  put : (i : ℕ) (ok : Bool) → i < length T → Absent id T → Seat T t i ok → Step T id rate t (set T i (made id rate (first ok rate) t)) ok

-- a place past the end holds no one
past_end : (T : List RateBucket) (id : Id) (j : ℕ) → length T ≤ j → holds_bucket id (bucket_at T j) ≡ false
unfolding holds_bucket
past_end T id j h = rw (get_or-eq_default T no_bucket {n = j} h)

-- where no bucket is found, no one is
pub none_holds : (T : List RateBucket) (id : Id) → ltb (find (holds_bucket id) T) (length T) ≡ false → Absent id T
none_holds T id e =
    record {
      none =
          λ j. by (ltb j (length T))
          (λ l. find_none (holds_bucket id) T no_bucket (ltb-false _ _ e) j (ltb-true j (length T) l))
          (λ l. past_end T id j (ltb-false j (length T) l));
    }

pub grants_spent : (ok : Bool) → grants (cond ok Allowed Limited) ≡ ok
grants_spent true = refl
grants_spent false = refl

pub grants_put : (ok : Bool) → grants (cond ok Allowed EvictedAndDenied) ≡ ok
grants_put true = refl
grants_put false = refl

module _ (T : List RateBucket) (id : Id) (rate t : ℕ) (some : 0 < length T) (away : Absent id T) where
  -- a newcomer at a seat that is open or not
  put_seat : (i : ℕ) {ok : Bool} → is_open (bucket_at T i) t ≡ ok → i < length T → Seat T t i ok
      → Step T id rate t (stored T (put_at T i id rate t)) (grants (put_at T i id rate t).result)
  put_seat i {ok} e l s = rw (e, grants_put ok) (put i ok l away s)

  seated : Step T id rate t (stored T (newcomer T id rate t)) (grants (newcomer T id rate t).result)
  seated =
      rw (newcomer_put T id rate t some)
      (by (ltb (find is_free T) (length T))
      (λ e.
      let l : find is_free T < length T = ltb-true _ _ e in
      let a = not-true _ (find-lt is_free T no_bucket l) in
      rw (← seat-free is_free time_of T refl l)
      (put_seat (find is_free T) (rw a) l (free a (λ j h. not-false _ (find_before is_free T no_bucket j h)))))
      (λ e.
      let l : length T ≤ find is_free T = ltb-false _ _ e in
      let i : ℕ = least_place (least_of time_of any T) in
      let live : (j : ℕ) → j < length T → (bucket_at T j).active ≡ true = λ j h. not-false _ (find_none is_free T no_bucket l j h) in
      let here = place_lt time_of no_bucket T some in
      rw (← seat_least is_free time_of T refl l refl)
      (put_seat i (rw (live i here)) here (worn live (place_least time_of no_bucket T) (λ o. o)))))

-- every decision is one of the two
pub step : (T : List RateBucket) (id : Id) (rate t : ℕ) → 0 < length T
    → Step T id rate t (stored T (decide T id rate t)) (grants (decide T id rate t).result)
unfolding decide
step T id rate t some =
    by (ltb (find (holds_bucket id) T) (length T))
    (λ e.
    let l : find (holds_bucket id) T < length T = ltb-true _ _ e in
    rw (e, grants_spent (spend (bucket_at T (find (holds_bucket id) T)) t).ok) (hit (find (holds_bucket id) T) l (find-lt (holds_bucket id) T no_bucket l)))
    (λ e. rw e (seated T id rate t some (none_holds T id e)))

-- an expired bucket is idle for more than 300 seconds
pub expired : (b : RateBucket) (t : ℕ) → is_expired b t ≡ true → time_of b + 300000000 < t
unfolding is_expired
expired b t e = omega (arith, ltb-true 300000000 (t - time_of b) e)
