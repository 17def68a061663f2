-- The choice of a place for a new identity. Document 01 says: the first free place; else the expired one with the least refill time; else the least of all. One
-- scan for the least of all decides it: that bucket is expired, or none is (`newcomer_put`). Assumes nothing.
use mathlib.Core.Bool.{Bool, true, false, cond, not, ◌||◌}
use mathlib.Core.List.{List}
use mathlib.Core.Path.{◌≡◌, refl, sym, ◌∙◌}
use Prim.Native.Nat.{ℕ, ◌-◌, ◌<◌, ◌≤◌}
use native.Mathlib.Omega.{arith}
use borrow.Author.Tests.{lt-ltb, le-ltb, ltb-true, ltb-false}
use lib.Dec.{ltb}
use lib.ListN.{length, get_or}
use Rattle.laws.proofs.Cases.{by}
use Rattle.tables.specs.Scan.{find, absent, least, least_of, least_place, any, seat}
use Rattle.tables.specs.Buckets.{is_expired, made, no_bucket, newcomer}
use Rattle.tables.specs.declared.identity.Id.{Id}
use Rattle.tables.specs.declared.buckets.RateBucket.{RateBucket}
use Rattle.tables.specs.declared.buckets.RateDecision.{RateDecision}
use Rattle.tables.specs.declared.buckets.RateCheckResult.TheVariants.{Allowed, EvictedAndDenied}
use Rattle.tables.proofs.ScanLaws.{find-lt, find_none, least_at, place_lt, least_passing, kept, seat-free, seat_least}

abbrev pub time_of : RateBucket → ℕ
time_of b = b.last_refill_us

abbrev pub is_free : RateBucket → Bool
is_free b = not b.active

-- a place whose bucket may be made anew with its full rate: free or expired
abbrev pub is_open : RateBucket → ℕ → Bool
is_open b t = not b.active || is_expired b t

-- a new identity put at a place: allowed, with the rate minus 1, where the place is open; else denied, with 0
abbrev pub put_at : List RateBucket → ℕ → Id → ℕ → ℕ → RateDecision
put_at bs at id rate t =
    record {
      at = at;
      bucket = made id rate (cond (is_open (get_or bs at no_bucket) t) (rate - 1) 0) t;
      result = cond (is_open (get_or bs at no_bucket) t) Allowed EvictedAndDenied;
    }

-- idle more than 300,000,000, said of the refill time alone
abbrev late : ℕ → ℕ → Bool
late t u = ltb 300000000 (t - u)

-- what is expired with a refill time is expired with any smaller one
late_down : (t u v : ℕ) → u ≤ v → late t v ≡ true → late t u ≡ true
late_down t u v h e = let k = ltb-true 300000000 (t - v) e in lt-ltb 300000000 (t - u) (omega arith)

-- so the least that is expired is the least of all, if that is expired
least_expired : (t : ℕ) (bs : List RateBucket) → least_of time_of (λ b. is_expired b t) bs ≡ kept (late t) (least_of time_of any bs)
unfolding is_expired
least_expired t bs = least_passing time_of (λ b. is_expired b t) (late t) (λ b. refl) (late_down t) bs

module _ (bs : List RateBucket) (t : ℕ) {at : ℕ} (here : at ≡ least_place (least_of time_of any bs)) (some : 0 < length bs) where
  -- the least of all, with its place
  least_here : least_of time_of any bs ≡ least at (time_of (get_or bs at no_bucket))
  least_here = rw here (least_at time_of no_bucket bs some)

  expired_here : is_expired (get_or bs at no_bucket) t ≡ true
      → least_of time_of (λ b. is_expired b t) bs ≡ least at (time_of (get_or bs at no_bucket))
  unfolding is_expired
  expired_here e = least_expired t bs ∙ (rw (least_here, e))

  none_expired : is_expired (get_or bs at no_bucket) t ≡ false → least_of time_of (λ b. is_expired b t) bs ≡ absent
  unfolding is_expired
  none_expired e = least_expired t bs ∙ (rw (least_here, e))

-- what the limiter decides on a new identity, from the two scans
module _ (bs : List RateBucket) (id : Id) (rate t : ℕ) where
  pub at_free : {i : ℕ} → i ≡ find is_free bs → i < length bs → record { at = i; bucket = made id rate (rate - 1) t; result = Allowed } ≡ newcomer bs id rate t
  unfolding newcomer
  at_free e h = let g : find is_free bs < length bs = omega arith in rw (lt-ltb _ _ g, e)

  module _ {i at : ℕ} (none : i ≡ find is_free bs) (full : length bs ≤ i) (here : at ≡ least_place (least_of time_of any bs)) (some : 0 < length bs) where
    pub at_expired : is_expired (get_or bs at no_bucket) t ≡ true → record { at = at; bucket = made id rate (rate - 1) t; result = Allowed } ≡ newcomer bs id rate t
    unfolding newcomer
    at_expired e = let g : length bs ≤ find is_free bs = omega arith in rw (le-ltb _ _ g, expired_here bs t here some e)

    pub at_least : is_expired (get_or bs at no_bucket) t ≡ false
        → record { at = at; bucket = made id rate 0 t; result = EvictedAndDenied } ≡ newcomer bs id rate t
    unfolding newcomer
    at_least e = let g : length bs ≤ find is_free bs = omega arith in rw (le-ltb _ _ g, none_expired bs t here some e, here)

  -- and so, whatever is free or expired: the seat is put to use, as it is open or not
  pub newcomer_put : 0 < length bs → newcomer bs id rate t ≡ put_at bs (seat is_free time_of bs) id rate t
  newcomer_put some =
      by (ltb (find is_free bs) (length bs))
      (λ e.
      let h : find is_free bs < length bs = ltb-true _ _ e in
      sym (at_free refl h) ∙ (rw (← seat-free is_free time_of bs refl h, find-lt is_free bs no_bucket h)))
      (λ e.
      let h : length bs ≤ find is_free bs = ltb-false _ _ e in
      let live = find_none is_free bs no_bucket h (least_place (least_of time_of any bs)) (place_lt time_of no_bucket bs some) in
      let s = seat_least is_free time_of bs refl h refl in
      by (is_expired (get_or bs (least_place (least_of time_of any bs)) no_bucket) t)
      (λ x. sym (at_expired refl h refl some x) ∙ (rw (← s, live, x)))
      (λ x. sym (at_least refl h refl some x) ∙ (rw (← s, live, x))))
