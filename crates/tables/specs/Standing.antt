-- Where the limit stands in a table of buckets: from when on a message of an identity passes, if no message comes before it; and who would give way, the oldest first. Times have 64 bits, and so
-- a time past them never comes. No time goes in: the answer holds for every time.
-- Assumes nothing.
use Rattle.std.specs.Prelude.{Bool, true, false, cond, not, List, [], ◌∷◌, ℕ, zero, suc, ◌+◌, ◌-◌, ◌/◌, eqb, leb, ltb, length, get_or, set}
use Rattle.tables.specs.Buckets.{no_bucket, empty_bucket, holds_bucket}
use Rattle.tables.specs.Scan.{find, least_of, least_place, is_there, any}
use Rattle.tables.specs.declared.identity.Id.{Id}
use Rattle.tables.specs.declared.buckets.RateBucket.{RateBucket}
use Rattle.tables.specs.declared.standing.Opening.{Opening}
use Rattle.tables.specs.declared.standing.Opening.TheVariants.{Never, From}
use Rattle.tables.specs.declared.standing.Prospect.{Prospect}

-- whether it has come at a time
abbrev pub opens : Opening → ℕ → Bool
opens Never t = false
opens (From u) t = leb u t

-- a wait after a time
abbrev pub later_by : ℕ → ℕ → Opening
later_by time wait = cond (leb (time + wait) 18446744073709551615) (From (time + wait)) Never

-- a held bucket: at once with a token or a whole one due; else when the rest of a token is earned, rounded up to a microsecond
unfoldable pub opening_of : RateBucket → Opening
opening_of b =
    cond (eqb b.capacity 0) Never
    (cond (ltb 0 b.tokens) (From 0)
    (cond (ltb 999999 b.remainder) (From 0)
    (later_by b.last_refill_us ((999999 - b.remainder) / b.capacity + 1))))

-- a new identity: at once where a place is free; else when the bucket with the least time is idle for more than 300 seconds
unfoldable pub opening_new : List RateBucket → Opening
opening_new bs =
    cond (ltb (find (λ b. not b.active) bs) (length bs)) (From 0)
    (later_by (get_or bs (least_place (least_of (λ b. b.last_refill_us) any bs)) no_bucket).last_refill_us 300000001)

-- an identity, held or new
unfoldable pub prospect_in : List RateBucket → Id → Prospect
prospect_in bs id =
    cond (ltb (find (holds_bucket id) bs) (length bs)) (record { held = true; opening = opening_of (get_or bs (find (holds_bucket id) bs) no_bucket) })
    (record { held = false; opening = opening_new bs })

-- how many places are taken
unfoldable pub taken_in : List RateBucket → ℕ
taken_in [] = zero
taken_in (b ∷ bs) = cond b.active (suc (taken_in bs)) (taken_in bs)

-- the place of the oldest live bucket, the first in a tie; the table's length where none is live
unfoldable pub oldest_live : List RateBucket → ℕ
oldest_live bs =
    cond (is_there (least_of (λ b. b.last_refill_us) (λ b. b.active) bs))
    (least_place (least_of (λ b. b.last_refill_us) (λ b. b.active) bs)) (length bs)

-- the live buckets, the oldest first: the oldest, then the oldest of those that are left; at most `k` of them
unfoldable pub oldest_first : ℕ → List RateBucket → List RateBucket
oldest_first zero bs = []
oldest_first (suc k) bs =
    cond (ltb (oldest_live bs) (length bs)) (get_or bs (oldest_live bs) no_bucket ∷ oldest_first k (set bs (oldest_live bs) empty_bucket)) []
