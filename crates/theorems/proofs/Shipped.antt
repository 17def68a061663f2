-- Demand 3 of the shipped `inspect`: its runs are those under the matcher of the state that they began with (`one_matcher`), and under any matcher demand 3 holds. Assumes nothing.
use mathlib.Core.Path.{◌≡◌, refl, ap, ◌∙◌}
use mathlib.Core.List.{List, [], ◌∷◌, ◌++◌}
use Rattle.topics.specs.Matching.{matches_by}
use Rattle.topics.specs.declared.matching.Matching.{Matching}
use Rattle.tables.specs.declared.identity.Id.{Id}
use Rattle.monitor.specs.Acts.{ours}
use Rattle.monitor.specs.Chosen.{Keeps}
use Rattle.monitor.specs.Runs.{Call, answer, shipped, after_by, after}
use Rattle.monitor.specs.State.{matcher_of}
use Rattle.monitor.specs.Ended.{Inspected}
use Rattle.monitor.specs.declared.state.MqttMonitor.{MqttMonitor}
use Rattle.monitor.proofs.Chosen.{one_matcher, as_chosen}
use Rattle.theorems.specs.Run.{is_allowed, reaches, allowed_of}
use Rattle.theorems.specs.Shipped.{passes, passed_by, ShippedLimits}
use Rattle.theorems.proofs.Lower.{lower_first, lower_later}
use Rattle.theorems.proofs.Turns.{Like, rate_like, on}
use Rattle.theorems.proofs.Removals.{removed_shipped}
use Rattle.theorems.proofs.Upper.{gives_upper}

-- the state after a run chose what the first did
still : (p : MqttMonitor) (cs : List Call) → Keeps p (after (matcher_of p) p cs)
still p cs = rw (one_matcher p cs).left at (one_matcher p cs).choice

-- what is counted of a run is what specs/Run.antt counts
pub passed_alike : {p m : MqttMonitor} → Like p m → (x : Id) (cs : List Call) → passed_by shipped p m x cs ≡ allowed_of (matcher_of p) m x cs
unfolding passed_by allowed_of reaches
passed_alike k x [] = refl
passed_alike {p} {m} k x (c ∷ cs) =
    let a : shipped m c ≡ answer (matcher_of p) m c = as_chosen p m k.same.choice_same c in
    let v : passes shipped m c ≡ is_allowed (matcher_of p) m c = ap (λ (r : Inspected). r.result.allowed) a in
    rw (v, a, rate_like (matcher_of p) k c, passed_alike {m = (answer (matcher_of p) m c).monitor} (on (matcher_of p) k c) x cs)

-- and so is the verdict after one
pub verdict : (p : MqttMonitor) (cs : List Call) (z : Call) → passes shipped (after_by shipped p cs) z ≡ is_allowed (matcher_of p) (after (matcher_of p) p cs) z
verdict p cs z =
    ap (λ (m : MqttMonitor). passes shipped m z) (one_matcher p cs).left
    ∙ ap (λ (matching : Matching). is_allowed (matches_by matching) (after (matcher_of p) p cs) z) (still p cs)

pub shipped_meets : ShippedLimits
shipped_meets =
    record {
      upper = gives_upper (ours shipped) removed_shipped;
      lower_first =
          λ p q x before z o h s rz. verdict p before z ∙ lower_first (matcher_of p) p q x before z o h s rz;
      lower_later =
          λ p q x R before between y z o h r ry s rz g.
          verdict p (before ++ y ∷ between) z ∙ lower_later (matcher_of p) p q x R before between y z o h r ry s rz g;
    }
