-- Document 01, "Buckets", with request C-17, by which a bucket keeps the part of a token that it earned: one bucket's step, the choice of a place, and what the
-- limiter decides. A decision is the place, the bucket to store there and which of three ended it; nothing is stored here.
-- Assumes nothing.
use Rattle.std.specs.Prelude.{Bool, true, false, cond, not, ◌&&◌, ◌||◌, List, ℕ, ◌+◌, ◌-◌, ◌*◌, ◌/◌, ◌%◌, max, leb, ltb, length, get_or}
use Rattle.tables.specs.Identity.{is_of, is_removed, no_id, empty_id}
use Rattle.tables.specs.Scan.{find, least_of, least_place, is_there, any}
use Rattle.tables.specs.declared.identity.Id.{Id}
use Rattle.tables.specs.declared.buckets.RateBucket.{RateBucket}
use Rattle.tables.specs.declared.buckets.RateDecision.{RateDecision}
use Rattle.tables.specs.declared.buckets.RateCheckResult.TheVariants.{Allowed, Limited, EvictedAndDenied}

-- a bucket after a message of its identity, and whether the message is within the rate
pub record Spent : Type 0 where
  pub ok : Bool
  pub bucket : RateBucket

-- the same bucket with other tokens, another remainder and another time
abbrev pub with_tokens : RateBucket → ℕ → ℕ → ℕ → RateBucket
with_tokens b tokens remainder time =
    record { id = b.id; tokens = tokens; capacity = b.capacity; remainder = remainder; last_refill_us = time; active = b.active }

-- what a refill counts, in millionths of a token: elapsed x capacity, elapsed 0 if the clock went back, and the remainder
abbrev pub due : RateBucket → ℕ → ℕ
due b t = (t - b.last_refill_us) * b.capacity + b.remainder

-- the tokens, with the whole ones that are due
abbrev pub risen : RateBucket → ℕ → ℕ
risen b t = b.tokens + due b t / 1000000

-- the stored time moves to now, but never backwards
abbrev pub latest : RateBucket → ℕ → ℕ
latest b t = max b.last_refill_us t

-- a refill: tokens rise by the whole ones that are due, and the remainder is kept; a full bucket drops it
unfoldable pub refilled : RateBucket → ℕ → RateBucket
refilled b t =
    cond (ltb (risen b t) b.capacity) (with_tokens b (risen b t) (due b t % 1000000) (latest b t)) (with_tokens b b.capacity 0 (latest b t))

-- one token of a bucket is spent, or there is none
abbrev pub take_token : RateBucket → Spent
take_token b =
    cond (ltb 0 b.tokens) (record { ok = true; bucket = with_tokens b (b.tokens - 1) b.remainder b.last_refill_us })
    (record { ok = false; bucket = b })

-- one message of a bucket's identity: refill, then one token is spent or the message is denied
unfoldable pub spend : RateBucket → ℕ → Spent
spend b t = take_token (refilled b t)

-- idle more than 300,000,000
unfoldable pub is_expired : RateBucket → ℕ → Bool
is_expired b t = ltb 300000000 (t - b.last_refill_us)

-- a live bucket of an identity
unfoldable pub holds_bucket : Id → RateBucket → Bool
holds_bucket id b = b.active && is_of id b.id

-- a bucket made now: its capacity is the rate, its remainder 0
abbrev pub made : Id → ℕ → ℕ → ℕ → RateBucket
made id rate tokens t = record { id = id; tokens = tokens; capacity = rate; remainder = 0; last_refill_us = t; active = true }

-- what stands past a table's end, as the checker reads it
abbrev pub no_bucket : RateBucket
no_bucket = record { id = no_id; tokens = 0; capacity = 0; remainder = 0; last_refill_us = 0; active = false }

-- a message of a held identity
abbrev pub spent_at : List RateBucket → ℕ → ℕ → RateDecision
spent_at bs at t =
    record { at = at; bucket = (spend (get_or bs at no_bucket) t).bucket; result = cond (spend (get_or bs at no_bucket) t).ok Allowed Limited }

-- a new identity: first free place; else the expired one with the least time; else the least time of all, replaced with 0 tokens and
-- denied. The first place wins a tie
unfoldable pub newcomer : List RateBucket → Id → ℕ → ℕ → RateDecision
newcomer bs id rate t =
    cond (ltb (find (λ b. not b.active) bs) (length bs))
    (record { at = find (λ b. not b.active) bs; bucket = made id rate (rate - 1) t; result = Allowed })
    (cond (is_there (least_of (λ b. b.last_refill_us) (λ b. is_expired b t) bs))
    (record { at = least_place (least_of (λ b. b.last_refill_us) (λ b. is_expired b t) bs); bucket = made id rate (rate - 1) t; result = Allowed })
    (record { at = least_place (least_of (λ b. b.last_refill_us) any bs); bucket = made id rate 0 t; result = EvictedAndDenied }))

-- what the limiter decides on a message of an identity under a rate
unfoldable pub decide : List RateBucket → Id → ℕ → ℕ → RateDecision
decide bs id rate t =
    cond (ltb (find (holds_bucket id) bs) (length bs)) (spent_at bs (find (holds_bucket id) bs) t) (newcomer bs id rate t)

-- the place of the bucket that a remove call removes; the table's length where it is not held
unfoldable pub removed_bucket : Id → List RateBucket → ℕ
removed_bucket id bs = find (λ b. b.active && is_removed id b.id) bs

-- a free place
abbrev pub empty_bucket : RateBucket
empty_bucket = record { id = empty_id; tokens = 0; capacity = 0; remainder = 0; last_refill_us = 0; active = false }

-- not a live record with a prefix length over 32 or a remainder over 999,999 (number 10)
abbrev pub bucket_fine : RateBucket → Bool
bucket_fine b = not b.active || leb b.id.prefix_len 32 && leb b.remainder 999999
