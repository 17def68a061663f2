-- That every number of a state is within its type can be met: a fresh monitor's are. `settings` takes it on to monitors that were loaded; request C-23 waits for it. Assumes nothing.
use Prim.Native.Nat.{ℕ, ◌^◌, ◌<◌}
use native.Mathlib.Omega.{arith}
use borrow.Author.Tests.{ltb-true, ltb-false}
use lib.Dec.{ltb}
use lib.ListN.{get_or, replicate, get_or-replicate, get_or-eq_default, length-replicate}
use Rattle.laws.proofs.Cases.{by}
use Rattle.topics.specs.declared.matching.Matching.{Matching}
use Rattle.tables.specs.Buckets.{no_bucket, empty_bucket}
use Rattle.tables.specs.Identity.{no_id, empty_id}
use Rattle.tables.specs.Rules.{no_rule, empty_rule}
use Rattle.tables.specs.Trackers.{no_tracker, empty_tracker}
use Rattle.tables.specs.Windows.{no_window, empty_window}
use Rattle.tables.specs.declared.rules.TopicAction.{TopicAction}
use Rattle.monitor.specs.Calls.{fresh}
use Rattle.monitor.specs.Ranged.{Below, RangedRule, RangedId, RangedBucket, RangedWindow, RangedTracker, Ranged}

-- what holds of an element and of what is read past the end holds of a table of that element alone
pub alone : {A : Type 0} (P : A → Type 0) (n : ℕ) (x d : A) → P x → P d → (i : ℕ) → P (get_or (replicate n x) i d)
alone P n x d p q i =
    by (ltb i n)
    (λ e. rw (get_or-replicate n i x d (ltb-true _ _ e)) p)
    (λ e. rw (get_or-eq_default (replicate n x) d {n = i} (omega (arith, length-replicate n x, ltb-false i n e))) q)

pub zeros : (n m : ℕ) → 0 < n → Below n (replicate m 0)
zeros n m h = alone (λ k. k < n) m 0 0 h h

-- the rules of a free place and of what is read past a table's end
pub free_rule : RangedRule empty_rule
free_rule = record { pattern_bytes = zeros 256 64 (omega arith); pattern_len = omega arith; rate = omega arith }

pub no_rule_lem : RangedRule no_rule
no_rule_lem = record { pattern_bytes = zeros 256 0 (omega arith); pattern_len = omega arith; rate = omega arith }

-- the identities of a free place and of what is read past a table's end
free_id : RangedId empty_id
free_id = record { hash_fits = omega arith; hash2_fits = omega arith; prefix_bytes = zeros 256 32 (omega arith); prefix_len = omega arith; len_fits = omega arith; suffix_fits = omega arith }

no_id_lem : RangedId no_id
no_id_lem = record { hash_fits = omega arith; hash2_fits = omega arith; prefix_bytes = zeros 256 0 (omega arith); prefix_len = omega arith; len_fits = omega arith; suffix_fits = omega arith }

pub fresh_ranged : (matching : Matching) (default : TopicAction) → Ranged (fresh matching default)
unfolding fresh
fresh_ranged matching default =
    record {
      rules_ranged =
          alone RangedRule 32 empty_rule no_rule free_rule no_rule_lem;
      count_fits = omega arith;
      buckets_ranged =
          alone RangedBucket 32 empty_bucket no_bucket
          (record { id_ranged = free_id; tokens_fit = omega arith; capacity_fits = omega arith; remainder_fits = omega arith; time_fits = omega arith })
          (record { id_ranged = no_id_lem; tokens_fit = omega arith; capacity_fits = omega arith; remainder_fits = omega arith; time_fits = omega arith });
      windows_ranged =
          alone RangedWindow 16 empty_window no_window
          (record { hash_fits = omega arith; hash2_fits = omega arith; stamps_fit = zeros (2 ^ 64) 16 (omega arith); count_fits = omega arith; write_fits = omega arith; seen_fits = omega arith })
          (record { hash_fits = omega arith; hash2_fits = omega arith; stamps_fit = zeros (2 ^ 64) 0 (omega arith); count_fits = omega arith; write_fits = omega arith; seen_fits = omega arith });
      threshold_fits = omega arith;
      window_fits = omega arith;
      trackers_ranged =
          alone RangedTracker 16 empty_tracker no_tracker
          (record { id_ranged = free_id; mean_fits = omega arith; samples_fit = omega arith; time_fits = omega arith })
          (record { id_ranged = no_id_lem; mean_fits = omega arith; samples_fit = omega arith; time_fits = omega arith });
      id_fits = omega arith;
      inspected_fits = omega arith;
      alerts_fit = omega arith;
    }
