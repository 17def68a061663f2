-- Demand 3's own upper half: runs of inspections alone, in which no bucket is removed, so that of the bound with removals (proofs/Removals.antt) the bucket and rate x D are left. It follows of any
-- candidate, and under any matcher. Assumes nothing.
use mathlib.Core.Bool.{true, ◌&&◌}
use mathlib.Core.List.{List, [], ◌∷◌, ◌++◌, map-append}
use mathlib.Core.Path.{◌≡◌, refl, sym, ap, ◌∙◌}
use Prim.Native.Nat.{ℕ, ◌+◌, ◌-◌, ◌*◌, ◌/◌, ◌≤◌}
use native.Mathlib.Omega.{arith}
use Rattle.tables.specs.declared.identity.Id.{Id}
use Rattle.tables.proofs.buckets.BucketLaws.{one}
use Rattle.monitor.specs.Acts.{Act, inspects, Candidate, ours, inspections, after_acts, messages, others_in, removals}
use Rattle.monitor.specs.Runs.{Call, answer, after_by}
use Rattle.monitor.specs.State.{matcher_of}
use Rattle.monitor.specs.declared.state.MqttMonitor.{MqttMonitor}
use Rattle.theorems.specs.Limits.{Upper}
use Rattle.theorems.specs.Removals.{passed_in, UpperRemoved, UpperRemovedBy}
use Rattle.theorems.specs.Run.{Matcher, time, reaches, InOrder, OneRate, allowed_of}
use Rattle.theorems.specs.Shipped.{passes, passed_by, UpperBy}
use Rattle.theorems.proofs.Removals.{removed_under}
use Rattle.theorems.proofs.Turns.{Like, rate_like, on, on_run, begin}

-- a run of inspections alone: its messages, the state after it, no removal
all_messages : (cs : List Call) → messages (inspections cs) ≡ cs
unfolding messages
all_messages [] = refl
all_messages (c ∷ cs) = ap (λ l. c ∷ l) (all_messages cs)

joined : (before between : List Call) (a z : Call)
    → inspections before ++ inspects a ∷ inspections between ++ inspects z ∷ [] ≡ inspections (before ++ a ∷ between ++ z ∷ [])
joined before between a z =
    sym (map-append inspects (before ++ a ∷ between) (z ∷ []) ∙ ap (λ (acts : List Act). acts ++ inspects z ∷ []) (map-append inspects before (a ∷ between)))

module _ (h : Candidate) where
  after_inspections : (m : MqttMonitor) (cs : List Call) → after_acts h m (inspections cs) ≡ after_by h.inspect m cs
  unfolding after_acts after_by
  after_inspections m [] = refl
  after_inspections m (c ∷ cs) = after_inspections (h.inspect m c).monitor cs

  no_removal : (m : MqttMonitor) (cs : List Call) → removals h m (inspections cs) ≡ 0
  unfolding others_in
  no_removal m [] = refl
  no_removal m (c ∷ cs) = no_removal (h.inspect m c).monitor cs

  -- the bound without a removal
  without : (matcher : Matcher) (m : MqttMonitor) → UpperRemoved matcher h m → (x : Id) (R : ℕ) (before between : List Call) (a z : Call)
      → InOrder (before ++ a ∷ between ++ z ∷ []) → OneRate matcher m x R (before ++ a ∷ between ++ z ∷ [])
      → reaches matcher m x a ≡ true → reaches matcher m x z ≡ true
      → passed_in h (reaches matcher m x) (after_by h.inspect m before) (inspections (a ∷ between ++ z ∷ [])) ≤ R + R * (time z - time a) / 1000000
  without matcher m b x R before between a z o r ra rz =
      let e : messages (inspections before ++ inspects a ∷ inspections between ++ inspects z ∷ []) ≡ before ++ a ∷ between ++ z ∷ [] =
      ap messages (joined before between a z) ∙ all_messages (before ++ a ∷ between ++ z ∷ []) in
      let k = no_removal (after_acts h m (inspections before ++ inspects a ∷ [])) between in
      let n = b x R (inspections before) (inspections between) a z (rw e o) (rw e r) ra rz in
      rw (← after_inspections m before, map-append inspects (a ∷ between) (z ∷ [])) (omega (arith, rw k at n))

  -- and what passes is what demand 3 counts
  passed_by_lem : (p m : MqttMonitor) (x : Id) (cs : List Call) → passed_in h (reaches (matcher_of p) p x) m (inspections cs) ≡ passed_by h.inspect p m x cs
  unfolding passed_in passed_by
  passed_by_lem p m x [] = refl
  passed_by_lem p m x (c ∷ cs) = ap (λ (n : ℕ). one (reaches (matcher_of p) p x c && passes h.inspect m c) + n) (passed_by_lem p (h.inspect m c).monitor x cs)

  pub gives_upper : UpperRemovedBy h → UpperBy h.inspect
  gives_upper b p q x R before between a z o r ra rz =
      rw (← passed_by_lem p (after_by h.inspect p before) x (a ∷ between ++ z ∷ [])) (omega (arith, without (matcher_of p) p (b p q) x R before between a z o r ra rz))

-- under a matcher likewise, where reach is asked of the state at hand
passed_under : (matcher : Matcher) {m₀ m : MqttMonitor} → Like m₀ m → (x : Id) (cs : List Call)
    → passed_in (ours (answer matcher)) (reaches matcher m₀ x) m (inspections cs) ≡ allowed_of matcher m x cs
unfolding passed_in allowed_of reaches
passed_under matcher k x [] = refl
passed_under matcher {m₀ = m₀} {m = m} k x (c ∷ cs) = rw (rate_like matcher k c, passed_under matcher {m = (answer matcher m c).monitor} (on matcher k c) x cs)

pub upper : Upper
upper matcher m p x R before between a z o r ra rz =
    rw (← passed_under matcher (on_run matcher (begin p) before) x (a ∷ between ++ z ∷ []))
    (omega (arith, without (ours (answer matcher)) matcher m (removed_under matcher m p) x R before between a z o r ra rz))
