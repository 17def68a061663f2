-- Where the limit stands is exact: the limiter lets a message pass exactly from that time on (`result_exact`). A message that it denies by 5 does not move it (`limited_stays`), and one that it
-- denies by 6 waits for one whole token from then on (`newcomer_waits`). Assumes nothing.
use mathlib.Core.Bool.{Bool, true, false, cond, true≢false}
use mathlib.Core.List.{List, [], ◌∷◌}
use mathlib.Core.Path.{◌≡◌, refl, sym, ap, ◌∙◌}
use Prim.Native.Nat.{ℕ, suc, ◌+◌, ◌-◌, ◌*◌, ◌/◌, ◌%◌, ◌<◌, ◌≤◌, min}
use native.Mathlib.Nat.{div-lt_iff_lt-mul, add-mul-div_right}
use native.Mathlib.Omega.{arith}
use borrow.Author.Tests.{lt-ltb, le-ltb, le-leb, lt-leb, leb-true, leb-false, ltb-true, ltb-false, eqb-true, eqb-false, ne_eqb, not-false}
use lib.Dec.{eqb, leb, ltb}
use lib.ListN.{length, get_or, set, length-set}
use lib.Seq.{get_or-set_same, get_or-set_other}
use Rattle.laws.proofs.Cases.{by}
use Rattle.laws.proofs.Tests.{alike}
use Rattle.tables.specs.Buckets.{with_tokens, due, risen, latest, refilled, spend, no_bucket, holds_bucket, is_expired, newcomer, decide, made}
use Rattle.tables.specs.Scan.{find, least_of, least_place, any, seat}
use Rattle.tables.specs.Standing.{opens, later_by, opening_of, opening_new, prospect_in, oldest_live}
use Rattle.tables.specs.declared.identity.Id.{Id}
use Rattle.tables.specs.declared.buckets.RateBucket.{RateBucket}
use Rattle.tables.specs.declared.buckets.RateCheckResult.TheVariants.{Allowed, Limited, EvictedAndDenied}
use Rattle.tables.specs.Buckets.{Spent}
use Rattle.tables.proofs.ScanLaws.{find-lt, find_before, find_none, place_lt, least_at, seat-free, seat_least, seat-lt}
use Rattle.tables.proofs.buckets.BucketLaws.{keeps}
use Rattle.tables.proofs.buckets.PlaceLaws.{time_of, is_free, is_open, newcomer_put}
use Rattle.tables.proofs.buckets.StepLaws.{grants, grants_spent, grants_put, stored, none_holds, Step, hit, put, step}
use Rattle.tables.proofs.identity.IdentityLaws.{is_of_refl}
use Rattle.tables.proofs.standing.StandingLaws.{prospect_held}

chosen : (c : Bool) (x y : Spent) → x.ok ≡ true → y.ok ≡ false → (cond c x y).ok ≡ c
chosen true x y p q = p
chosen false x y p q = q

-- a message of a bucket's identity passes exactly where a whole token is there or due
passes : (b : RateBucket) (t : ℕ) → (spend b t).ok ≡ ltb 0 (min (risen b t) b.capacity)
unfolding spend refilled
passes b t =
    by (ltb (risen b t) b.capacity)
    (λ e.
    let m : min (risen b t) b.capacity ≡ risen b t = (let h = ltb-true (risen b t) b.capacity e in omega arith) in
    rw (e, m) (chosen (ltb 0 (risen b t)) _ _ refl refl))
    (λ e.
    let m : min (risen b t) b.capacity ≡ b.capacity = (let h = ltb-false (risen b t) b.capacity e in omega arith) in
    rw (e, m) (chosen (ltb 0 b.capacity) _ _ refl refl))

-- times have 64 bits, so a time past them never comes
later_opens : (l w t : ℕ) → t ≤ 18446744073709551615 → opens (later_by l w) t ≡ leb (l + w) t
later_opens l w t h =
    by (leb (l + w) 18446744073709551615) (λ e. rw e)
    (λ e. rw e (let k = leb-false (l + w) 18446744073709551615 e in sym (lt-leb (l + w) t (omega arith))))

-- the time from which on more than n parts are earned, at c of them a microsecond
earns : (n c l t : ℕ) → 0 < c → ltb n ((t - l) * c) ≡ leb (l + (n / c + 1)) t
earns n c l t h =
    alike (ltb n ((t - l) * c)) (leb (l + (n / c + 1)) t)
    (λ e. le-leb (l + (n / c + 1)) t (let d : n / c < t - l = (div-lt_iff_lt-mul h).1 (ltb-true n ((t - l) * c) e) in omega arith))
    (λ e. lt-ltb n ((t - l) * c) ((div-lt_iff_lt-mul h).0 (let d = leb-true (l + (n / c + 1)) t e in omega arith)))

opening_exact : (b : RateBucket) (t : ℕ) → t ≤ 18446744073709551615 → (spend b t).ok ≡ opens (opening_of b) t
unfolding opening_of
opening_exact b t low =
    passes b t
    ∙ (by (eqb b.capacity 0)
    (λ e. let z : min (risen b t) b.capacity ≤ 0 = omega (arith, eqb-true b.capacity 0 e) in rw (e, le-ltb 0 (min (risen b t) b.capacity) z))
    (λ e.
    let c : 0 < b.capacity = omega (arith, eqb-false b.capacity 0 e) in
    by (ltb 0 b.tokens)
    (λ k. let p : 0 < min (risen b t) b.capacity = omega (arith, ltb-true 0 b.tokens k) in rw (e, k) (lt-ltb 0 (min (risen b t) b.capacity) p ∙ sym (le-leb 0 t (omega arith))))
    (λ k.
    by (ltb 999999 b.remainder)
    (λ r.
    let p : 0 < min (risen b t) b.capacity = omega (arith, ltb-true 999999 b.remainder r) in
    rw (e, k, r) (lt-ltb 0 (min (risen b t) b.capacity) p ∙ sym (le-leb 0 t (omega arith))))
    (λ r.
    let z = ltb-false 0 b.tokens k in
    let w = ltb-false 999999 b.remainder r in
    rw (e, k, r)
    (alike (ltb 0 (min (risen b t) b.capacity)) (ltb (999999 - b.remainder) ((t - b.last_refill_us) * b.capacity))
    (λ q. lt-ltb (999999 - b.remainder) ((t - b.last_refill_us) * b.capacity) (let y = ltb-true 0 (min (risen b t) b.capacity) q in omega arith))
    (λ q. lt-ltb 0 (min (risen b t) b.capacity) (let y = ltb-true (999999 - b.remainder) ((t - b.last_refill_us) * b.capacity) q in omega arith))
    ∙ earns (999999 - b.remainder) b.capacity b.last_refill_us t c
    ∙ sym (later_opens b.last_refill_us ((999999 - b.remainder) / b.capacity + 1) t low))))))

-- idle more than 300 seconds, said as a time
worn_from : (l t : ℕ) → ltb 300000000 (t - l) ≡ leb (l + 300000001) t
worn_from l t =
    alike (ltb 300000000 (t - l)) (leb (l + 300000001) t)
    (λ e. le-leb (l + 300000001) t (let h = ltb-true 300000000 (t - l) e in omega arith))
    (λ e. lt-ltb 300000000 (t - l) (let h = leb-true (l + 300000001) t e in omega arith))

module _ (bs : List RateBucket) (id : Id) (rate t : ℕ) (some : 0 < length bs) (low : t ≤ 18446744073709551615) where
  new_exact : (newcomer bs id rate t).result ≡ cond (opens (opening_new bs) t) Allowed EvictedAndDenied
  unfolding opening_new is_expired
  new_exact =
      rw (newcomer_put bs id rate t some)
      (by (ltb (find is_free bs) (length bs))
      (λ e.
      let l : find is_free bs < length bs = ltb-true _ _ e in
      rw (← seat-free is_free time_of bs refl l, find-lt is_free bs no_bucket l, e) (ap (λ c. cond c Allowed EvictedAndDenied) (sym (le-leb 0 t (omega arith)))))
      (λ e.
      let l : length bs ≤ find is_free bs = ltb-false _ _ e in
      let i : ℕ = least_place (least_of time_of any bs) in
      rw (← seat_least is_free time_of bs refl l refl, find_none is_free bs no_bucket l i (place_lt time_of no_bucket bs some), e)
      (ap (λ c. cond c Allowed EvictedAndDenied) (worn_from (time_of (get_or bs i no_bucket)) t ∙ sym (later_opens (time_of (get_or bs i no_bucket)) 300000001 t low)))))

  -- the limiter lets a message pass exactly from the table's opening on; before it, a held identity has no token and a new one no place
  pub result_exact : (decide bs id rate t).result ≡ cond (opens (prospect_in bs id).opening t) Allowed (cond (prospect_in bs id).held Limited EvictedAndDenied)
  unfolding decide prospect_in
  result_exact =
      by (ltb (find (holds_bucket id) bs) (length bs))
      (λ e. let b = get_or bs (find (holds_bucket id) bs) no_bucket in rw e (ap (λ c. cond c Allowed Limited) (opening_exact b t low)))
      (λ e. rw e new_exact)

-- a message that finds no token, in a bucket that is as calls leave it
module _ (b : RateBucket) (t : ℕ) (fine : b.remainder ≤ 999999) (d : (spend b t).ok ≡ false) (some : 0 < b.capacity) where
  denied_none : min (risen b t) b.capacity ≡ 0
  denied_none = let k = ltb-false 0 (min (risen b t) b.capacity) (sym (passes b t) ∙ d) in omega arith

  -- it leaves what is due
  denied_bucket : (spend b t).bucket ≡ with_tokens b 0 (due b t) (latest b t)
  unfolding spend refilled
  denied_bucket =
      let n = denied_none in
      let z : risen b t ≡ 0 = omega arith in
      let l : risen b t < b.capacity = omega arith in
      let r : due b t % 1000000 ≡ due b t = omega arith in
      rw (lt-ltb _ _ l, z, r)

  -- which does not move the time from which on the next one passes
  denied_opens : opening_of (with_tokens b 0 (due b t) (latest b t)) ≡ opening_of b
  unfolding opening_of
  denied_opens =
      let n = denied_none in
      let k : ℕ = t - b.last_refill_us in
      let rest : ℕ = 999999 - due b t in
      let sum : rest + k * b.capacity ≡ 999999 - b.remainder = omega arith in
      let quotient : rest / b.capacity + k ≡ (999999 - b.remainder) / b.capacity =
      sym (add-mul-div_right rest k some) ∙ ap (λ (x : ℕ). x / b.capacity) sum in
      let time : latest b t + (rest / b.capacity + 1) ≡ b.last_refill_us + ((999999 - b.remainder) / b.capacity + 1) = omega arith in
      rw (ne_eqb b.capacity 0 (λ e. omega arith), le-ltb 999999 (due b t) (omega arith), le-ltb 0 b.tokens (omega arith), le-ltb 999999 b.remainder fine, time)

-- so a message that is denied leaves the opening of its bucket as it was
opening_stays : (b : RateBucket) (t : ℕ) → b.remainder ≤ 999999 → (spend b t).ok ≡ false → opening_of (spend b t).bucket ≡ opening_of b
unfolding opening_of
opening_stays b t fine d =
    by (eqb b.capacity 0)
    (λ e. rw ((keeps b t).cap, e))
    (λ e.
    let some : 0 < b.capacity = omega (arith, eqb-false b.capacity 0 e) in
    ap opening_of (denied_bucket b t fine d some) ∙ denied_opens b t fine d some)

-- the first place of all that passes a test
find_first : {A : Type 0} (p : A → Bool) (l : List A) (d : A) (i : ℕ) → i < length l → p (get_or l i d) ≡ true → ((j : ℕ) → j < i → p (get_or l j d) ≡ false) → i ≡ find p l
find_first p l d i h e before =
    by (ltb i (find p l))
    (λ k. absurd (true≢false (sym e ∙ find_before p l d i (ltb-true _ _ k))))
    (λ k.
    by (ltb (find p l) i)
    (λ m. let g = ltb-true (find p l) i m in absurd (true≢false (sym (find-lt p l d (omega arith)) ∙ before (find p l) g)))
    (λ m. let g = ltb-false (find p l) i m in let f = ltb-false i (find p l) k in omega arith))

-- a bucket of an identity stored where none before it is one is the first of the table
module _ (bs : List RateBucket) (id : Id) (i : ℕ) (c : RateBucket) (l : i < length bs) (h : holds_bucket id c ≡ true) (before : (j : ℕ) → j < i → holds_bucket id (get_or bs j no_bucket) ≡ false) where
  there : get_or (set bs i c) i no_bucket ≡ c
  there = get_or-set_same bs i c no_bucket l

  inside : i < length (set bs i c)
  inside = rw length-set l

  first_there : i ≡ find (holds_bucket id) (set bs i c)
  first_there =
      find_first (holds_bucket id) (set bs i c) no_bucket i inside (ap (holds_bucket id) there ∙ h)
      (λ j k. ap (holds_bucket id) (get_or-set_other bs i j c no_bucket (λ e. omega arith)) ∙ before j k)

  stored_held : prospect_in (set bs i c) id ≡ record { held = true; opening = opening_of c }
  stored_held = prospect_held (set bs i c) id first_there inside ∙ (rw there)

  found_there : get_or (set bs i c) (find (holds_bucket id) (set bs i c)) no_bucket ≡ c
  found_there = rw (← first_there) there

-- whether an identity is held is whether it is found
pub held_is : (bs : List RateBucket) (id : Id) → (prospect_in bs id).held ≡ ltb (find (holds_bucket id) bs) (length bs)
unfolding prospect_in
held_is bs id = by (ltb (find (holds_bucket id) bs) (length bs)) (λ e. rw e) (λ e. rw e)

-- trying does not prolong the wait: a held identity that is denied has the same prospect then
pub limited_stays : (bs : List RateBucket) (id : Id) (rate t : ℕ) → find (holds_bucket id) bs < length bs → (get_or bs (find (holds_bucket id) bs) no_bucket).remainder ≤ 999999
    → grants (decide bs id rate t).result ≡ false → prospect_in (stored bs (decide bs id rate t)) id ≡ prospect_in bs id
unfolding decide holds_bucket
limited_stays bs id rate t l fine d =
    let i : ℕ = find (holds_bucket id) bs in
    let b : RateBucket = get_or bs i no_bucket in
    let k = keeps b t in
    let e : (spend b t).ok ≡ false = sym (grants_spent (spend b t).ok) ∙ (rw (lt-ltb _ _ l) at d) in
    rw (lt-ltb _ _ l)
    (stored_held bs id i (spend b t).bucket l (rw (k.live, k.id) (find-lt (holds_bucket id) bs no_bucket l)) (find_before (holds_bucket id) bs no_bucket)
    ∙ ap (λ o. record { held = true; opening = o }) (opening_stays b t fine e) ∙ sym (prospect_held bs id refl l))

-- a bucket that was given to a newcomer empty waits for one whole token
evicted_waits : (id : Id) (rate t : ℕ) → 0 < rate → opening_of (made id rate 0 t) ≡ later_by t (999999 / rate + 1)
unfolding opening_of
evicted_waits id rate t h = rw (ne_eqb rate 0 (λ e. omega arith))

-- a new identity that is denied has an empty bucket then, and waits for one whole token
pub newcomer_waits : (bs : List RateBucket) (id : Id) (rate t : ℕ) → 0 < length bs → 0 < rate → length bs ≤ find (holds_bucket id) bs
    → grants (decide bs id rate t).result ≡ false → prospect_in (stored bs (decide bs id rate t)) id ≡ record { held = true; opening = later_by t (999999 / rate + 1) }
unfolding holds_bucket
newcomer_waits bs id rate t some pos none d = go (step bs id rate t some) d
  where
    go : {T' : List RateBucket} {ok : Bool} → Step bs id rate t T' ok → ok ≡ false → prospect_in T' id ≡ record { held = true; opening = later_by t (999999 / rate + 1) }
    go (hit i l h) d = absurd (true≢false (sym h ∙ find_none (holds_bucket id) bs no_bucket none i l))
    go (put i true l a s) d = absurd (true≢false d)
    go (put i false l a s) d =
        stored_held bs id i (made id rate 0 t) l (is_of_refl id) (λ j k. a.none j) ∙ (rw (evicted_waits id rate t pos))

-- the bucket that the limiter stores is the identity's one in the table then
pub stored_there : (bs : List RateBucket) (id : Id) (rate t : ℕ) → 0 < length bs
    → get_or (stored bs (decide bs id rate t)) (find (holds_bucket id) (stored bs (decide bs id rate t))) no_bucket ≡ (decide bs id rate t).bucket
unfolding decide holds_bucket
stored_there bs id rate t some =
    by (ltb (find (holds_bucket id) bs) (length bs))
    (λ e.
    let l : find (holds_bucket id) bs < length bs = ltb-true _ _ e in
    let b : RateBucket = get_or bs (find (holds_bucket id) bs) no_bucket in
    let k = keeps b t in
    rw e
    (found_there bs id (find (holds_bucket id) bs) (spend b t).bucket l (rw (k.live, k.id) (find-lt (holds_bucket id) bs no_bucket l))
    (find_before (holds_bucket id) bs no_bucket)))
    (λ e.
    let a = none_holds bs id e in
    rw (e, newcomer_put bs id rate t some)
    (found_there bs id (seat is_free time_of bs) _ (seat-lt is_free time_of bs no_bucket some) (is_of_refl id) (λ j k. a.none j)))

-- where all are live, the oldest live bucket is the oldest of all
live_all : (bs : List RateBucket) → ((j : ℕ) → j < length bs → (get_or bs j no_bucket).active ≡ true) → least_of time_of (λ b. b.active) bs ≡ least_of time_of any bs
unfolding least_of
live_all [] h = refl
live_all (b ∷ bs) h = let e : b.active ≡ true = h 0 (omega arith) in rw (e, live_all bs (λ j l. h (suc j) (omega arith)))

oldest_of_all : (bs : List RateBucket) → 0 < length bs → ((j : ℕ) → j < length bs → (get_or bs j no_bucket).active ≡ true) → oldest_live bs ≡ least_place (least_of time_of any bs)
unfolding oldest_live
oldest_of_all bs some h = rw (live_all bs h, least_at time_of no_bucket bs some)

-- WHO GIVES WAY: a newcomer that is denied takes the place of the oldest, with an empty bucket
pub gives_way : (bs : List RateBucket) (id : Id) (rate t : ℕ) → 0 < length bs → length bs ≤ find (holds_bucket id) bs → grants (decide bs id rate t).result ≡ false
    → stored bs (decide bs id rate t) ≡ set bs (oldest_live bs) (made id rate 0 t)
unfolding decide
gives_way bs id rate t some new =
    rw (le-ltb _ _ new, newcomer_put bs id rate t some)
    (by (ltb (find is_free bs) (length bs))
    (λ f.
    let l : find is_free bs < length bs = ltb-true _ _ f in
    rw (← seat-free is_free time_of bs refl l, find-lt is_free bs no_bucket l) (λ d. absurd (true≢false d)))
    (λ f.
    let l : length bs ≤ find is_free bs = ltb-false _ _ f in
    let i : ℕ = least_place (least_of time_of any bs) in
    let live : (j : ℕ) → j < length bs → (get_or bs j no_bucket).active ≡ true = λ j h. not-false _ (find_none is_free bs no_bucket l j h) in
    rw (← seat_least is_free time_of bs refl l refl)
    (λ d.
    let shut : is_open (get_or bs i no_bucket) t ≡ false = sym (grants_put (is_open (get_or bs i no_bucket) t)) ∙ d in
    rw (shut, oldest_of_all bs some live))))
