-- What the calls of a run that are no inspections are to the limiter (specs/Acts.antt): refused, one changes nothing; else rules, default and matcher stay, and so do the buckets, but for the
-- one place that a removal makes free. Assumes nothing.
use mathlib.Core.Bool.{Bool, true, false, cond, ◌&&◌, false≢true}
use mathlib.Core.List.{List}
use mathlib.Core.Path.{◌≡◌, refl, sym}
use Prim.Native.Nat.{ℕ, ◌<◌}
use borrow.Author.Tests.{ltb-true}
use lib.Dec.{eqb, ltb}
use lib.ListN.{set}
use Rattle.laws.proofs.Cases.{by}
use Rattle.tables.specs.Buckets.{empty_bucket, removed_bucket}
use Rattle.tables.specs.Identity.{id_of}
use Rattle.tables.specs.Trackers.{removed_tracker}
use Rattle.tables.specs.declared.buckets.RateBucket.{RateBucket}
use Rattle.monitor.specs.Acts.{Other, removes, forgets, storms, called, is_removal}
use Rattle.monitor.specs.Calls.{tested, set_storm, remove_bucket, remove_tracker}
use Rattle.monitor.specs.Sound.{Sound}
use Rattle.monitor.specs.State.{number_of}
use Rattle.monitor.specs.declared.state.MqttMonitor.{MqttMonitor}
use Rattle.monitor.proofs.Link.{SameRules}
use Rattle.monitor.proofs.SoundCalls.{sound_storm, sound_bucket, sound_tracker}

-- one that is refused hands the state back as given
pub refused_kept : (m : MqttMonitor) (o : Other) → eqb (number_of (called m o).outcome) 0 ≡ false → (called m o).monitor ≡ m
unfolding remove_bucket remove_tracker set_storm
refused_kept m (removes topic) e =
    by (eqb (tested m (cond (ltb (removed_bucket (id_of topic) m.rate_buckets) 32) 0 7)) 0) (λ z. absurd (false≢true (sym (rw z at e)))) (λ z. rw z)
refused_kept m (forgets topic) e =
    by (eqb (tested m (cond (ltb (removed_tracker (id_of topic) m.ewma_trackers) 16) 0 7)) 0) (λ z. absurd (false≢true (sym (rw z at e)))) (λ z. rw z)
refused_kept m (storms threshold window) e = by (eqb (tested m 0) 0) (λ z. absurd (false≢true (sym (rw z at e)))) (λ z. rw z)

-- the buckets after a call, and whether it removed one
pub data Freed (T : List RateBucket) : Bool → List RateBucket → Type 0 where
  kept : Freed T false T
  freed : (k : ℕ) → k < 32 → Freed T true (set T k empty_bucket)

-- a call beside the inspections of a run
pub record Beside (m : MqttMonitor) (o : Other) : Type 0 where
  pub sound : Sound (called m o).monitor
  pub same : SameRules m (called m o).monitor
  pub frees : Freed m.rate_buckets (is_removal o && eqb (number_of (called m o).outcome) 0) (called m o).monitor.rate_buckets

module _ {m : MqttMonitor} (s : Sound m) where
  pub beside : (o : Other) → Beside m o
  unfolding remove_bucket remove_tracker set_storm
  beside (removes topic) =
      let at = removed_bucket (id_of topic) m.rate_buckets in
      record {
        sound = sound_bucket s topic;
        same =
            by (ltb at 32)
            (λ e. rw (s.formed, e) (record { rules_same = refl; count_same = refl; default_same = refl; choice_same = refl }))
            (λ e. rw (s.formed, e) (record { rules_same = refl; count_same = refl; default_same = refl; choice_same = refl }));
        frees = by (ltb at 32) (λ e. rw (s.formed, e) (freed at (ltb-true at 32 e))) (λ e. rw (s.formed, e) kept);
      }
  beside (forgets topic) =
      let at = removed_tracker (id_of topic) m.ewma_trackers in
      record {
        sound = sound_tracker s topic;
        same =
            by (ltb at 16)
            (λ e. rw (s.formed, e) (record { rules_same = refl; count_same = refl; default_same = refl; choice_same = refl }))
            (λ e. rw (s.formed, e) (record { rules_same = refl; count_same = refl; default_same = refl; choice_same = refl }));
        frees = by (ltb at 16) (λ e. rw (s.formed, e) kept) (λ e. rw (s.formed, e) kept);
      }
  beside (storms threshold window) =
      record {
        sound = sound_storm s threshold window;
        same = rw s.formed (record { rules_same = refl; count_same = refl; default_same = refl; choice_same = refl });
        frees = rw s.formed kept;
      }
