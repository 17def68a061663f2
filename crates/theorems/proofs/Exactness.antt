-- The exact lower half of the shipped `inspect`, and what follows from it of any monitor. Assumes nothing.
use mathlib.Core.Bool.{Bool, ◌&&◌}
use mathlib.Core.List.{List, [], ◌∷◌, ◌++◌}
use mathlib.Core.Path.{◌≡◌, refl, sym, ◌∙◌}
use Prim.Native.Nat.{ℕ, ◌+◌}
use native.Mathlib.Omega.{arith}
use Rattle.laws.proofs.Cases.{by}
use Rattle.tables.specs.declared.identity.Id.{Id}
use Rattle.tables.proofs.buckets.BucketLaws.{one}
use Rattle.monitor.specs.Runs.{Call, Monitor, shipped, after_by}
use Rattle.monitor.specs.State.{matcher_of}
use Rattle.monitor.specs.declared.state.MqttMonitor.{MqttMonitor}
use Rattle.monitor.proofs.Chosen.{one_matcher}
use Rattle.monitor.proofs.Replies.{after_two}
use Rattle.theorems.specs.LowerExact.{ExactBy, DeniesBy, Exactness}
use Rattle.theorems.specs.Run.{rate_of, reaches}
use Rattle.theorems.specs.Shipped.{passes, passed_by, UpperBy, LowerBy, LaterBy}
use Rattle.theorems.proofs.Cuts.{rate_silent}
use Rattle.theorems.proofs.Follows.{Counts, first_room, later_room, no_room_denied}
use Rattle.theorems.proofs.LowerExact.{lower_exact}
use Rattle.theorems.proofs.Shipped.{passed_alike, verdict}
use Rattle.theorems.proofs.Turns.{on_run, begin}

module _ (f : Monitor) (p : MqttMonitor) (x : Id) where
  -- the verdicts of a monitor's run, and what is counted of it
  abbrev verdict_by : List Call → Call → Bool
  verdict_by before z = passes f (after_by f p before) z

  abbrev count_by : List Call → List Call → ℕ
  count_by earlier = passed_by f p (after_by f p earlier) x

  passed_last : (m : MqttMonitor) (cs : List Call) (c : Call)
      → passed_by f p m x (cs ++ c ∷ []) ≡ passed_by f p m x cs + one (reaches (matcher_of p) p x c && passes f (after_by f m cs) c)
  unfolding passed_by after_by
  passed_last m [] c = omega arith
  passed_last m (d ∷ cs) c = let e = passed_last (f m d).monitor cs c in omega arith

  counts_by : Counts (matcher_of p) p x verdict_by count_by
  unfolding passed_by
  counts_by = record { none = λ past. refl; last = λ past cs c. rw (after_two f p past cs) (passed_last (after_by f p past) cs c) }

shipped_exact : ExactBy shipped
shipped_exact p q x R before z o h r rz e =
    let n = lower_exact (matcher_of p) p q x R before z o h r rz (sym (verdict p before z) ∙ e) in
    let k = on_run (matcher_of p) (begin q) n.earlier in
    record {
      earlier = n.earlier;
      first = n.first;
      stretch = n.stretch;
      cut = n.cut;
      mine = n.mine;
      passed = rw ((one_matcher p n.earlier).left, passed_alike k x (n.first ∷ n.stretch)) n.passed;
    }

gives_first : (f : Monitor) → ExactBy f → LowerBy f
gives_first f exact p q x before z o h s rz =
    by (verdict_by f p x before z)
    (λ e. e)
    (λ e.
    absurd
    (first_room (matcher_of p) p x (verdict_by f p x) (count_by f p x) s (exact p q x (rate_of (matcher_of p) p z) before z o h (rate_silent s z refl) rz e)))

gives_later : (f : Monitor) → UpperBy f → ExactBy f → LaterBy f
gives_later f up exact p q x R before between y z o h r ry s rz g =
    by (verdict_by f p x (before ++ y ∷ between) z)
    (λ e. e)
    (λ e.
    absurd
    (later_room (matcher_of p) p x (verdict_by f p x) (count_by f p x) (counts_by f p x) (up p q x) R y z between ry s g before o r
    (exact p q x R (before ++ y ∷ between) z o h r rz e)))

denies : (f : Monitor) → UpperBy f → DeniesBy f
denies f up p q x R before z o r rz n =
    no_room_denied (matcher_of p) p x (verdict_by f p x) (count_by f p x) (counts_by f p x) (up p q x) o r rz n

pub exactness : Exactness
exactness =
    record { any_matcher = lower_exact; shipped_exact = shipped_exact; gives_first = gives_first; gives_later = gives_later; denies = denies }
