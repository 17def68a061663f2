-- The bound of request C-24: all removals are counted, and so it follows from the one that counts those that were felt (proofs/Felt.antt), of any candidate. It holds under any matcher
-- and of the shipped calls, whose runs are those under the matcher that their first state chose. Calls that fail change nothing. Assumes nothing.
use mathlib.Core.Bool.{Bool, true, false, not, ◌&&◌, and-false}
use mathlib.Core.List.{List, [], ◌∷◌, ◌++◌}
use mathlib.Core.Path.{◌≡◌, refl, sym, ap, ◌∙◌}
use Prim.Native.Nat.{ℕ, ◌+◌, ◌*◌, ◌≤◌}
use native.Mathlib.Nat.{zero-add, mul-le-mul_right}
use native.Mathlib.Omega.{arith}
use lib.Dec.{eqb}
use Rattle.laws.proofs.Cases.{by}
use Rattle.tables.specs.declared.identity.Id.{Id}
use Rattle.tables.proofs.buckets.BucketLaws.{one}
use Rattle.monitor.specs.Acts.{Act, inspects, asks, Candidate, called, ours, after_acts, is_removal, has_removed, others_in, removals}
use Rattle.monitor.specs.Prepared.{Prepared}
use Rattle.monitor.specs.Runs.{Monitor, answer, shipped}
use Rattle.monitor.specs.State.{matcher_of, number_of}
use Rattle.monitor.specs.declared.state.MqttMonitor.{MqttMonitor}
use Rattle.monitor.proofs.Acts.{refused_kept}
use Rattle.monitor.proofs.Chosen.{as_chosen}
use Rattle.theorems.specs.Removals.{passed_in, UpperRemoved, UpperRemovedBy, without_failed, FailedFree}
use Rattle.theorems.specs.Run.{Matcher}
use Rattle.theorems.specs.Shipped.{passes}
use Rattle.theorems.specs.Spared.{has_bucket, felt, UpperFelt, UpperFeltBy}
use Rattle.theorems.proofs.Felt.{bound}

-- a removal that is felt is one
one_of : (a b : Bool) → one (a && b) ≤ one a
one_of true true = omega arith
one_of true false = omega arith
one_of false b = omega arith

felt-le : (h : Candidate) (x : Id) (m : MqttMonitor) (acts : List Act) → felt h x m acts ≤ removals h m acts
unfolding others_in
felt-le h x m [] = omega arith
felt-le h x m (inspects c ∷ acts) = felt-le h x (h.inspect m c).monitor acts
felt-le h x m (asks o ∷ acts) =
    let r = felt-le h x (h.ask m o).monitor acts in
    omega (arith, one_of (has_removed h m o) (not (has_bucket x (h.ask m o).monitor)))

all_counted : (matcher : Matcher) (h : Candidate) (m : MqttMonitor) → UpperFelt matcher h m → UpperRemoved matcher h m
all_counted matcher h m b x R before between a z o r ra rz =
    let k = felt-le h x (after_acts h m (before ++ inspects a ∷ [])) between in
    let more : (felt h x (after_acts h m (before ++ inspects a ∷ [])) between + 1) * R ≤ (removals h (after_acts h m (before ++ inspects a ∷ [])) between + 1) * R =
    mul-le-mul_right R (omega arith) in
    omega (arith, more, b x R before between a z o r ra rz)

pub gives_removed : (h : Candidate) → UpperFeltBy h → UpperRemovedBy h
gives_removed h b p q = all_counted (matcher_of p) h p (b p q)

-- under any matcher
pub felt_under : (matcher : Matcher) (m : MqttMonitor) → Prepared m → UpperFelt matcher (ours (answer matcher)) m
felt_under matcher m p = bound matcher (answer matcher) m p (λ n e c. refl)

pub removed_under : (matcher : Matcher) (m : MqttMonitor) → Prepared m → UpperRemoved matcher (ours (answer matcher)) m
removed_under matcher m p = all_counted matcher (ours (answer matcher)) m (felt_under matcher m p)

-- of the shipped calls
pub felt_shipped : UpperFeltBy (ours shipped)
felt_shipped p q = bound (matcher_of p) shipped p q (as_chosen p)

pub removed_shipped : UpperRemovedBy (ours shipped)
removed_shipped = gives_removed (ours shipped) felt_shipped

-- a run without the calls that fail
pub failed_free : (f : Monitor) (m : MqttMonitor) (acts : List Act) → FailedFree (ours f) m acts
unfolding without_failed after_acts passed_in others_in
failed_free f m [] = record { left = refl; passed = λ reach. refl; removed = refl }
failed_free f m (inspects c ∷ acts) =
    let r = failed_free f (f m c).monitor acts in
    record { left = r.left; passed = λ reach. ap (λ (n : ℕ). one (reach c && passes f m c) + n) (r.passed reach); removed = r.removed }
failed_free f m (asks o ∷ acts) =
    let r = failed_free f (called m o).monitor acts in
    by (eqb (number_of (called m o).outcome) 0)
    (λ e. record { left = rw e r.left; passed = λ reach. rw e (r.passed reach); removed = rw (e, e) (ap (λ (n : ℕ). one (is_removal o && true) + n) r.removed) })
    (λ e.
    let less : List Act = without_failed (ours f) (called m o).monitor acts in
    let k : m ≡ (called m o).monitor = sym (refused_kept m o e) in
    record {
      left = rw e (ap (λ (n : MqttMonitor). after_acts (ours f) n less) k ∙ r.left);
      passed = λ reach. rw e (ap (λ (n : MqttMonitor). passed_in (ours f) reach n less) k ∙ r.passed reach);
      removed = rw (e, and-false (is_removal o)) (ap (λ (n : MqttMonitor). removals (ours f) n less) k ∙ r.removed ∙ sym (zero-add (removals (ours f) (called m o).monitor acts)));
    })
