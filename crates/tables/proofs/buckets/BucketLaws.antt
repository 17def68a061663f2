-- One bucket's step, as a proof about rates needs it: in millionths of a token, with nothing rounded, and with no subtraction. `level` is what a bucket holds,
-- and a time `t` is worth R * t millionths under the rate R. What a message takes (`one`) and what is left never exceed what was there and what the time
-- earned (`keeps`), nor a whole bucket (`starts`); and nothing is lost, but for what runs over a full bucket (`Exactly`, request C-17). These laws are all that
-- such a proof may use of `spend`.
-- Assumes nothing.
use mathlib.Core.Bool.{Bool, true, false, cond, not, ◌&&◌, ◌||◌, true≢false}
use mathlib.Core.Logic.{◌⊎◌, inl, inr, ⊎_elim}
use mathlib.Core.Path.{◌≡◌, refl, ap, subst}
use Prim.Native.Nat.{ℕ, ◌+◌, ◌-◌, ◌*◌, ◌<◌, ◌≤◌}
use native.Mathlib.Nat.{sub-add_cancel}
use native.Mathlib.Omega.{arith}
use borrow.Author.Tests.{le-leb, ltb-true, ltb-false}
use lib.Dec.{leb, ltb}
use Rattle.laws.proofs.Cases.{by}
use Rattle.tables.specs.Buckets.{with_tokens, risen, latest, refilled, spend, made, bucket_fine}
use Rattle.tables.specs.declared.identity.Id.{Id}
use Rattle.tables.specs.declared.buckets.RateBucket.{RateBucket}
use Rattle.tables.specs.Buckets.{Spent}

-- what a bucket holds, in millionths of a token
abbrev pub level : RateBucket → ℕ
level b = 1000000 * b.tokens + b.remainder

-- what a message takes, in tokens
abbrev pub one : Bool → ℕ
one ok = cond ok 1 0

-- a bucket of the rate R whose identity's messages so far came at or before `now`
pub record Good (R now : ℕ) (b : RateBucket) : Type 0 where
  pub cap : b.capacity ≡ R
  pub past : b.last_refill_us ≤ now

-- a message of a bucket's identity at t
pub record Law (R t : ℕ) (b : RateBucket) (s : Spent) : Type 0 where
  pub good : Good R t s.bucket
  pub keeps : 1000000 * one s.ok + level s.bucket + R * b.last_refill_us ≤ level b + R * s.bucket.last_refill_us
  pub starts : 1000000 * one s.ok + level s.bucket + R * t ≤ 1000000 * R + R * s.bucket.last_refill_us

-- the same with nothing lost: all that was there and was earned is taken or left, or the bucket was full; and who is denied finds less than a token
pub record Exactly (R t : ℕ) (b : RateBucket) (s : Spent) : Type 0 where
  pub sums : (1000000 * one s.ok + level s.bucket + R * b.last_refill_us ≡ level b + R * t) ⊎ (1000000 * one s.ok + level s.bucket ≡ 1000000 * R)
  pub less : s.ok ≡ false → level s.bucket < 1000000
  pub now : s.bucket.last_refill_us ≡ t

-- a bucket made at t, the message allowed or not
pub record Made (R t : ℕ) (ok : Bool) (b : RateBucket) : Type 0 where
  pub good : Good R t b
  pub full : 1000000 * one ok + level b ≤ cond ok (1000000 * R) 0

-- what a message at t leaves as it was, in any bucket and by any clock
pub record Kept (t : ℕ) (b c : RateBucket) : Type 0 where
  pub live : c.active ≡ b.active
  pub id : c.id ≡ b.id
  pub cap : c.capacity ≡ b.capacity
  pub full : c.tokens ≤ c.capacity
  pub rest : c.remainder ≤ 999999
  pub later : b.last_refill_us ≤ c.last_refill_us
  pub soon : b.last_refill_us ≤ t → c.last_refill_us ≤ t

-- a bucket after a refill: what was there and what is due, or a full one
record Filled (b : RateBucket) (t : ℕ) (c : RateBucket) : Type 0 where
  live : c.active ≡ b.active
  id : c.id ≡ b.id
  cap : c.capacity ≡ b.capacity
  time : c.last_refill_us ≡ latest b t
  rest : c.remainder ≤ 999999
  most : level c ≤ 1000000 * b.capacity
  sums : (level c ≡ level b + (t - b.last_refill_us) * b.capacity) ⊎ (level c ≡ 1000000 * b.capacity)
  more : level c ≤ level b + (t - b.last_refill_us) * b.capacity

-- the two ways of a message after its refill: a token is spent, or there is none
data Way (b : RateBucket) (t : ℕ) : Spent → Type 0 where
  taken :
      (c : RateBucket) → Filled b t c → 0 < c.tokens
      → Way b t (record { ok = true; bucket = with_tokens c (c.tokens - 1) c.remainder c.last_refill_us })
  none : (c : RateBucket) → Filled b t c → c.tokens ≡ 0 → Way b t (record { ok = false; bucket = c })

module _ (b : RateBucket) (t : ℕ) where
  fills : Filled b t (refilled b t)
  unfolding refilled
  fills =
      by (ltb (risen b t) b.capacity)
      (λ e.
      let h : risen b t < b.capacity = ltb-true _ _ e in
      rw e
      (record { live = refl; id = refl; cap = refl; time = refl; rest = omega arith; most = omega arith; sums = inl (omega arith); more = omega arith }))
      (λ e.
      let h : b.capacity ≤ risen b t = ltb-false _ _ e in
      rw e
      (record { live = refl; id = refl; cap = refl; time = refl; rest = omega arith; most = omega arith; sums = inr (omega arith); more = omega arith }))

  way : Way b t (spend b t)
  unfolding spend
  way =
      by (ltb 0 (refilled b t).tokens)
      (λ e. rw e (taken (refilled b t) fills (ltb-true _ _ e)))
      (λ e. rw e (none (refilled b t) fills (let g = ltb-false 0 (refilled b t).tokens e in omega arith)))

-- a time's worth, in two parts
span : (R l t : ℕ) → l ≤ t → (t - l) * R + R * l ≡ R * t
span R l t h = omega (arith, ap (λ (k : ℕ). R * k) (sub-add_cancel h))

module _ (b : RateBucket) (t : ℕ) (h : b.last_refill_us ≤ t) where
  -- the stored time is now
  is_now : {c : RateBucket} → Filled b t c → c.last_refill_us ≡ t
  is_now f = let e = f.time in omega arith

  -- and is worth as much
  worth : {c : RateBucket} → Filled b t c → b.capacity * c.last_refill_us ≡ b.capacity * t
  worth f = ap (λ (k : ℕ). b.capacity * k) (is_now f)

  at_capacity : {s : Spent} → Way b t s → Law b.capacity t b s
  at_capacity (taken c f p) =
      let w = span b.capacity b.last_refill_us t h in
      let e = worth f in
      let n = is_now f in
      record { good = record { cap = f.cap; past = omega arith }; keeps = omega (arith, f.more); starts = omega (arith, f.most) }
  at_capacity (none c f p) =
      let w = span b.capacity b.last_refill_us t h in
      let e = worth f in
      let n = is_now f in
      record { good = record { cap = f.cap; past = omega arith }; keeps = omega (arith, f.more); starts = omega (arith, f.most) }

  exactly_at : {s : Spent} → Way b t s → Exactly b.capacity t b s
  exactly_at (taken c f p) =
      let w = span b.capacity b.last_refill_us t h in
      record { sums = ⊎_elim (λ d. inl (omega arith)) (λ d. inr (omega arith)) f.sums; less = λ z. absurd (true≢false z); now = is_now f }
  exactly_at (none c f p) =
      let w = span b.capacity b.last_refill_us t h in
      record { sums = ⊎_elim (λ d. inl (omega arith)) (λ d. inr (omega arith)) f.sums; less = λ z. omega (arith, f.rest); now = is_now f }

-- a message of a good bucket's identity
pub spends : (R t : ℕ) (b : RateBucket) → Good R t b → Law R t b (spend b t)
spends R t b g = subst (λ (r : ℕ). Law r t b (spend b t)) g.cap (at_capacity b t g.past (way b t))

pub exactly : (R t : ℕ) (b : RateBucket) → Good R t b → Exactly R t b (spend b t)
exactly R t b g = subst (λ (r : ℕ). Exactly r t b (spend b t)) g.cap (exactly_at b t g.past (way b t))

-- a bucket made with rate minus 1 where the message is allowed, with 0 where it is not
pub makes : (id : Id) (R t : ℕ) (ok : Bool) → 0 < R → Made R t ok (made id R (cond ok (R - 1) 0) t)
makes id R t true h = record { good = record { cap = refl; past = omega arith }; full = omega arith }
makes id R t false h = record { good = record { cap = refl; past = omega arith }; full = omega arith }

-- time goes on
pub wait : {R now t : ℕ} {b : RateBucket} → Good R now b → now ≤ t → Good R t b
wait g h = record { cap = g.cap; past = (let k = g.past in omega arith) }

kept_by : (b : RateBucket) (t : ℕ) {s : Spent} → Way b t s → Kept t b s.bucket
kept_by b t (taken c f p) =
    let e = f.time in
    record {
      live = f.live;
      id = f.id;
      cap = f.cap;
      full = omega (arith, f.most, f.cap);
      rest = f.rest;
      later = omega arith;
      soon = λ h. omega arith;
    }
kept_by b t (none c f p) =
    let e = f.time in
    record { live = f.live; id = f.id; cap = f.cap; full = omega arith; rest = f.rest; later = omega arith; soon = λ h. omega arith }

pub keeps : (b : RateBucket) (t : ℕ) → Kept t b (spend b t).bucket
keeps b t = kept_by b t (way b t)

-- two tests of a live record, the second met anew
still_fine : (live p r : Bool) → not live || p && r ≡ true → not live || p && true ≡ true
still_fine false p r e = refl
still_fine true true r e = refl
still_fine true false r e = e

-- a message leaves a fine bucket fine, and one that is made of an identity with a fine prefix length is (number 10)
pub fine_spent : (b : RateBucket) (t : ℕ) → bucket_fine b ≡ true → bucket_fine (spend b t).bucket ≡ true
fine_spent b t e =
    let k = keeps b t in
    rw (k.live, k.id, le-leb _ _ k.rest) (still_fine b.active (leb b.id.prefix_len 32) (leb b.remainder 999999) e)

pub fine_made : (id : Id) (rate tokens t : ℕ) → id.prefix_len ≤ 32 → bucket_fine (made id rate tokens t) ≡ true
fine_made id rate tokens t h = rw (le-leb _ _ h)
