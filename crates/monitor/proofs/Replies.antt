-- Runs of `inspect`. A call whose lent buffers are exactly the parts that its message uses, on a well-formed state, is not refused: what it hands back is the plan of those bytes, applied. Loops
-- that own the state apply plans; by this law they are runs of `inspect`. And what two runs one after the other come to. Assumes nothing.
use mathlib.Core.Bool.{Bool, true}
use mathlib.Core.List.{List, [], ◌∷◌, ◌++◌}
use mathlib.Core.Path.{◌≡◌, refl, ap}
use Prim.Native.Nat.{ℕ, ◌≤◌}
use native.Mathlib.Omega.{arith}
use borrow.Author.Tests.{le-ltb}
use lib.ListN.{length}
use lib.Seq.{take_all}
use Rattle.laws.specs.Lists.{every}
use Rattle.monitor.specs.Inspect.{applied, inspect_refusal, inspect_with, done_with}
use Rattle.monitor.specs.Message.{used_topic, used_payload}
use Rattle.monitor.specs.Plan.{plan_of}
use Rattle.monitor.specs.Runs.{Call, Exact, Monitor, Reply, answer, shipped, after_by, replies_by, is_inspected}
use Rattle.monitor.specs.State.{well_formed, matcher_of}
use Rattle.monitor.specs.declared.plan.Plan.{Plan}
use Rattle.monitor.specs.declared.state.MqttMonitor.{MqttMonitor}
use Rattle.monitor.proofs.state.KeptFormed.{applied_formed}

module _ (m : MqttMonitor) (c : Call) (w : well_formed m ≡ true) (exact : Exact c) where
  topic_lent : used_topic c.msg ≤ length c.topic
  topic_lent = omega (arith, exact.0)

  payload_lent : used_payload c.msg ≤ length c.payload
  payload_lent = omega (arith, exact.1)

  -- no number refuses it
  exact_taken : inspect_refusal m c.msg c.topic c.payload ≡ 0
  unfolding inspect_refusal
  exact_taken = rw (w, le-ltb _ _ topic_lent, le-ltb _ _ payload_lent)

  -- and all of its bytes are used
  pub exact_done : (matcher : List ℕ → List ℕ → Bool) → answer matcher m c ≡ done_with m (plan_of matcher m c.msg c.topic c.payload)
  unfolding inspect_with
  exact_done matcher =
      let t : length c.topic ≤ used_topic c.msg = omega (arith, exact.0) in
      let p : length c.payload ≤ used_payload c.msg = omega (arith, exact.1) in
      rw (exact_taken, take_all _ c.topic t, take_all _ c.payload p)

-- all calls of a list lend exactly what their messages use
abbrev pub AllExact : List Call → Type 0
AllExact [] = Unit
AllExact (c ∷ cs) = Exact c × AllExact cs

pub exact_join : (a b : List Call) → AllExact a → AllExact b → AllExact (a ++ b)
exact_join [] b h g = g
exact_join (c ∷ a) b h g = (h.0, exact_join a b h.1 g)

-- such a call of the shipped `inspect`, on a well-formed state: it applies the plan, and leaves a well-formed state
module _ (m : MqttMonitor) (c : Call) (w : well_formed m ≡ true) (e : Exact c) where
  abbrev plan : Plan
  plan = plan_of (matcher_of m) m c.msg c.topic c.payload

  pub shipped_done : shipped m c ≡ done_with m plan
  shipped_done = exact_done m c w e (matcher_of m)

  pub done_formed : well_formed (applied m plan) ≡ true
  done_formed = applied_formed (matcher_of m) m c.msg c.topic c.payload w

  pub shipped_formed : well_formed (shipped m c).monitor ≡ true
  shipped_formed = rw shipped_done done_formed

-- none of such calls is refused
pub run_inspected : (cs : List Call) (m : MqttMonitor) → well_formed m ≡ true → AllExact cs → every is_inspected (replies_by shipped m cs) ≡ true
unfolding every replies_by
run_inspected [] m w e = refl
run_inspected (c ∷ cs) m w e =
    rw (shipped_done m c w e.0) (run_inspected cs (applied m (plan m c w e.0)) (done_formed m c w e.0) e.1)

-- and the state after them is well formed
pub run_formed : (cs : List Call) (m : MqttMonitor) → well_formed m ≡ true → AllExact cs → well_formed (after_by shipped m cs) ≡ true
unfolding after_by
run_formed [] m w e = w
run_formed (c ∷ cs) m w e = run_formed cs (shipped m c).monitor (shipped_formed m c w e.0) e.1

-- two runs one after the other: the second goes on where the first ended
pub after_two : (f : Monitor) (m : MqttMonitor) (a b : List Call) → after_by f m (a ++ b) ≡ after_by f (after_by f m a) b
unfolding after_by
after_two f m [] b = refl
after_two f m (c ∷ a) b = after_two f _ a b

pub replies_two : (f : Monitor) (m : MqttMonitor) (a b : List Call) → replies_by f m (a ++ b) ≡ replies_by f m a ++ replies_by f (after_by f m a) b
unfolding replies_by after_by
replies_two f m [] b = refl
replies_two f m (c ∷ a) b = ap (λ (l : List Reply). record { call = c; given = f m c } ∷ l) (replies_two f (f m c).monitor a b)
