-- The loop of `loops` is a run of inspections (specs/Printed.antt, `Looped`): each message lends exactly what it uses, so `inspect` applies the plan that the loop applies.
-- Assumes nothing.
use mathlib.Core.Bool.{true}
use mathlib.Core.List.{List, [], ◌∷◌, ◌++◌}
use mathlib.Core.Path.{◌≡◌, refl, sym, ap, ◌∙◌}
use Prim.Native.Nat.{ℕ, zero, suc, ◌+◌, ◌*◌, ◌≤◌, min}
use native.Mathlib.Omega.{arith}
use lib.ListN.{length, length-take, length-drop}
use Rattle.laws.specs.Lists.{every}
use Rattle.laws.proofs.Cases.{by}
use Rattle.laws.proofs.Every.{every_join}
use Rattle.lines.specs.Span.{part}
use Rattle.monitor.specs.Inspect.{done_with}
use Rattle.monitor.specs.Runs.{Call, Exact, Reply, shipped, after_by, replies_by, is_inspected}
use Rattle.monitor.specs.State.{well_formed, matcher_of}
use Rattle.monitor.specs.Ended.{Inspected}
use Rattle.monitor.specs.declared.state.MqttMonitor.{MqttMonitor}
use Rattle.monitor.proofs.state.KeptFormed.{kept_formed}
use Rattle.monitor.proofs.Prepared.{prepared_sound}
use Rattle.monitor.proofs.Replies.{exact_done, after_two, replies_two}
use Rattle.loops.specs.Inspections.{from_at, readied, plan_at, state_after, allowed_after}
use Rattle.loops.proofs.inspections.LoopLaws.{readied_prepared}
use Rattle.loops.proofs.inspections.LoopLaws.{next_within, all_run}
use Rattle.theorems.specs.Printed.{passed, call_at, calls_to, loop_replies, LoopLimits}
use Rattle.theorems.specs.Run.{time, InOrder, nothing, single, later}
use Rattle.theorems.proofs.Printed.{shipped_limits}

passed_two : (a b : List Reply) → passed (a ++ b) ≡ passed a + passed b
unfolding passed
passed_two [] b = omega arith
passed_two (r ∷ a) b = omega (arith, passed_two a b)

-- a run in order goes on in order with a call that is not before any of it
abbrev Upto : List Call → ℕ → Type 0
Upto [] t = Unit
Upto (c ∷ cs) t = (time c ≤ t) × Upto cs t

upto_more : (cs : List Call) {t u : ℕ} → t ≤ u → Upto cs t → Upto cs u
upto_more [] h p = tt
upto_more (c ∷ cs) h p = (omega (arith, h, p.0), upto_more cs h p.1)

upto_last : (cs : List Call) (c : Call) {t : ℕ} → time c ≤ t → Upto cs t → Upto (cs ++ (c ∷ [])) t
upto_last [] c h p = (h, tt)
upto_last (d ∷ cs) c h p = (p.0, upto_last cs c h p.1)

in_order : (cs : List Call) (c : Call) → InOrder cs → Upto cs (time c) → InOrder (cs ++ (c ∷ []))
in_order [] c o p = single c
in_order (d ∷ []) c o p = later p.0 (single c)
in_order (d ∷ e ∷ cs) c (later h o) p = later h (in_order (e ∷ cs) c o p.1)

-- a topic that begins where it should lies inside
from_within : (long width k : ℕ) → width ≤ long → from_at long width k + width ≤ long
unfolding from_at
from_within long width zero h = omega (arith, h)
from_within long width (suc k) h = next_within long width (from_at long width k) h

module _ (n : ℕ) (topics : List ℕ) (width size : ℕ) (short : width ≤ 128) (lent : width ≤ length topics) where
  -- each message lends what it uses
  exact : (k : ℕ) → Exact (call_at n topics width size k)
  exact k =
      let h = from_within (length topics) width k lent in
      let l : length (part topics (from_at (length topics) width k) (from_at (length topics) width k + width)) ≡ width =
      rw (length-take, length-drop) (omega (arith, h)) in
      (omega (arith, l, short), refl)

  -- the state after the first messages
  abbrev there : ℕ → MqttMonitor
  there k = after_by shipped (readied n) (calls_to n topics width size k)

  formed : (k : ℕ) → well_formed (there k) ≡ true
  unfolding calls_to after_by
  formed zero = (prepared_sound (readied_prepared n)).formed
  formed (suc k) =
      let c = call_at n topics width size k in
      rw (after_two shipped (readied n) (calls_to n topics width size k) (c ∷ [])) (kept_formed (matcher_of (there k)) (there k) c.msg c.topic c.payload (formed k))

  done : (k : ℕ) → shipped (there k) (call_at n topics width size k) ≡ done_with (there k) (plan_at n topics width size (there k) k)
  done k = exact_done (there k) (call_at n topics width size k) (formed k) (exact k) (matcher_of (there k))

  state : (k : ℕ) → state_after n topics width size k ≡ there k
  unfolding state_after calls_to after_by
  state zero = refl
  state (suc k) =
      rw (state k) (sym (ap (λ (i : Inspected). i.monitor) (done k)))
      ∙ sym (after_two shipped (readied n) (calls_to n topics width size k) (call_at n topics width size k ∷ []))

  -- one message more is one reply more
  one_more : (k : ℕ) → loop_replies n topics width size (suc k)
      ≡ loop_replies n topics width size k
      ++ (record { call = call_at n topics width size k; given = shipped (there k) (call_at n topics width size k) } ∷ [])
  unfolding calls_to replies_by
  one_more k = replies_two shipped (readied n) (calls_to n topics width size k) (call_at n topics width size k ∷ [])

  all_inspected : (k : ℕ) → every is_inspected (loop_replies n topics width size k) ≡ true
  unfolding calls_to replies_by every
  all_inspected zero = refl
  all_inspected (suc k) =
      rw (one_more k) (every_join is_inspected (loop_replies n topics width size k) _ (all_inspected k) (rw (done k)))

  all_counted : (k : ℕ) → allowed_after n topics width size k ≡ min (passed (loop_replies n topics width size k)) 18446744073709551615
  unfolding allowed_after calls_to replies_by passed
  all_counted zero = refl
  all_counted (suc k) =
      rw (one_more k, passed_two, state k, done k)
      (by (plan_at n topics width size (there k) k).allowed (λ h. rw h (omega (arith, all_counted k))) (λ h. rw h (omega (arith, all_counted k))))

  times : (k : ℕ) → Upto (calls_to n topics width size k) (k * 10000)
  unfolding calls_to
  times zero = tt
  times (suc k) =
      upto_last (calls_to n topics width size k) (call_at n topics width size k) (omega arith) (upto_more (calls_to n topics width size k) (omega arith) (times k))

  ordered : (k : ℕ) → InOrder (calls_to n topics width size k)
  unfolding calls_to
  ordered zero = nothing
  ordered (suc k) = in_order (calls_to n topics width size k) (call_at n topics width size k) (ordered k) (times k)

pub loop_limits : LoopLimits
loop_limits n topics width size k short lent =
    record {
      prepared = readied_prepared n;
      inspected = all_inspected n topics width size short lent k;
      counts = all_run n topics width size k short lent ∙ all_counted n topics width size short lent k;
      limits =
          λ t s l.
          shipped_limits (readied_prepared n) (calls_to n topics width size k) (ordered n topics width size short lent k)
          (all_inspected n topics width size short lent k) t s l;
    }
