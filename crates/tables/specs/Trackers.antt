-- Document 01, "CONNECT windows and payload trackers": the mean of a topic's payload sizes, times 256, and the alert on a size far above it. Sums and
-- products of the mean saturate at 32 bits.
-- Assumes nothing.
use Rattle.std.specs.Prelude.{Bool, true, false, cond, not, ◌&&◌, ◌||◌, List, ℕ, ◌+◌, ◌*◌, ◌/◌, min, eqb, leb, ltb, length, get_or}
use Rattle.tables.specs.Identity.{is_of, is_removed, no_id, empty_id}
use Rattle.tables.specs.Scan.{find, seat}
use Rattle.tables.specs.declared.identity.Id.{Id}
use Rattle.tables.specs.declared.trackers.EwmaTracker.{EwmaTracker}
use Rattle.tables.specs.declared.trackers.TrackerDecision.{TrackerDecision}

-- a sum or product that saturates at 32 bits
abbrev pub saturated : ℕ → ℕ
saturated n = min n 4294967295

-- the mean times 256 after one size more, by how many samples there were: sample 1 sets it, 2 to 7 add, capped at 8 x 65,536, the eighth adds and
-- divides by 8, later ones weigh 32 to 224 of 256, at most 65,536
unfoldable pub mean_after : ℕ → ℕ → ℕ → ℕ
mean_after samples mean size =
    cond (eqb samples 0) (size * 256)
    (cond (ltb samples 7) (min (saturated (mean + size * 256)) 524288)
    (cond (eqb samples 7) (saturated (mean + size * 256) / 8)
    (min (saturated (saturated (32 * (size * 256)) / 256 + saturated (224 * mean) / 256)) 65536)))

-- threshold = mean x 4 / 256
abbrev pub threshold : ℕ → ℕ
threshold mean = saturated (mean * 4) / 256

-- an alert from the ninth sample on: the size is above the threshold, and that is above 0
unfoldable pub is_anomaly : ℕ → ℕ → ℕ → Bool
is_anomaly samples mean size = not (ltb samples 8) && ltb (threshold mean) size && ltb 0 (threshold mean)

-- a tracker fed with one size; the sample count stops at 255
unfoldable pub fed : EwmaTracker → ℕ → ℕ → EwmaTracker
fed k size t =
    record {
      id = k.id;
      mean_x256 = mean_after k.sample_count k.mean_x256 size;
      sample_count = min (k.sample_count + 1) 255;
      last_update_us = t;
      active = k.active;
    }

-- a tracker that was fed nothing yet
abbrev pub fresh_tracker : Id → EwmaTracker
fresh_tracker id = record { id = id; mean_x256 = 0; sample_count = 0; last_update_us = 0; active = true }

-- a live tracker of an identity
unfoldable pub holds_tracker : Id → EwmaTracker → Bool
holds_tracker id k = k.active && is_of id k.id

-- what stands past a table's end, as the checker reads it
abbrev pub no_tracker : EwmaTracker
no_tracker = record { id = no_id; mean_x256 = 0; sample_count = 0; last_update_us = 0; active = false }

-- a tracker fed, to be stored at a place, and whether it alerts
abbrev pub feed_at : ℕ → EwmaTracker → ℕ → ℕ → TrackerDecision
feed_at at k size t =
    record { at = at; tracker = fed k size t; alert = is_anomaly k.sample_count k.mean_x256 size }

-- what a fed message does: the topic's own tracker; else a fresh one in the first free place, else in that of the least update time, the first in a tie
unfoldable pub feed : List EwmaTracker → Id → ℕ → ℕ → TrackerDecision
feed ks id size t =
    cond (ltb (find (holds_tracker id) ks) (length ks))
    (feed_at (find (holds_tracker id) ks) (get_or ks (find (holds_tracker id) ks) no_tracker) size t)
    (feed_at (seat (λ k. not k.active) (λ k. k.last_update_us) ks) (fresh_tracker id) size t)

-- the place of the tracker that a remove call removes; the table's length where it is not held
unfoldable pub removed_tracker : Id → List EwmaTracker → ℕ
removed_tracker id ks = find (λ k. k.active && is_removed id k.id) ks

-- a free place
abbrev pub empty_tracker : EwmaTracker
empty_tracker = record { id = empty_id; mean_x256 = 0; sample_count = 0; last_update_us = 0; active = false }

-- not a live record with a prefix length over 32 (number 10)
abbrev pub tracker_fine : EwmaTracker → Bool
tracker_fine k = not k.active || leb k.id.prefix_len 32
