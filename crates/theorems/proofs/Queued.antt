-- Calls of `run_packets` one after the other are a run of inspections (specs/Queued.antt), whose messages lend exactly what they use and have the times of their calls. Assumes nothing.
use mathlib.Core.Bool.{true}
use mathlib.Core.List.{List, [], ◌∷◌, ◌++◌}
use mathlib.Core.Path.{◌≡◌, refl, sym, ap, ◌∙◌}
use Prim.Native.Nat.{ℕ, ◌≤◌}
use native.Mathlib.Omega.{arith}
use Rattle.laws.specs.Lists.{every}
use Rattle.laws.proofs.Every.{every_join}
use Rattle.monitor.specs.Runs.{Call, Reply, shipped, after_by, replies_by, is_inspected}
use Rattle.monitor.specs.State.{well_formed}
use Rattle.monitor.specs.declared.state.MqttMonitor.{MqttMonitor}
use Rattle.monitor.proofs.Prepared.{prepared_sound}
use Rattle.monitor.proofs.Replies.{run_formed, after_two, replies_two}
use Rattle.packets.proofs.messages.LeftLaws.{AllAt}
use Rattle.queue.specs.Queue.{Wake, sent_of, queue_end}
use Rattle.queue.proofs.Singly.{as_singly, sent_exact, sent_at}
use Rattle.theorems.specs.Queued.{sent_by, told_by, left_by, InTurn, nothing, later, QueuedLimits}
use Rattle.theorems.specs.Run as run
use Rattle.theorems.specs.Run.{time, InOrder}
use Rattle.theorems.proofs.Printed.{shipped_limits}

told : (m : MqttMonitor) (ws : List Wake) → told_by m ws ≡ replies_by shipped m (sent_by m ws)
unfolding told_by sent_by replies_by
told m [] = refl
told m (w ∷ ws) =
    let next : MqttMonitor = after_by shipped m (sent_of m w) in
    ap (λ (rs : List Reply). replies_by shipped m (sent_of m w) ++ rs) (told next ws) ∙ sym (replies_two shipped m (sent_of m w) (sent_by next ws))

state : (m : MqttMonitor) (ws : List Wake) → left_by m ws ≡ after_by shipped m (sent_by m ws)
unfolding left_by sent_by after_by
state m [] = refl
state m (w ∷ ws) =
    let next : MqttMonitor = after_by shipped m (sent_of m w) in
    state next ws ∙ sym (after_two shipped m (sent_of m w) (sent_by next ws))

inspected : (m : MqttMonitor) (ws : List Wake) → well_formed m ≡ true → every is_inspected (told_by m ws) ≡ true
unfolding told_by every
inspected m [] f = refl
inspected m (w ∷ ws) f =
    let next : MqttMonitor = after_by shipped m (sent_of m w) in
    every_join is_inspected (replies_by shipped m (sent_of m w)) (told_by next ws) (as_singly m w).inspected
    (inspected next ws (run_formed (sent_of m w) m f (sent_exact m w)))

-- no message before a time
abbrev Since : ℕ → List Call → Type 0
Since t [] = Unit
Since t (c ∷ cs) = (t ≤ time c) × Since t cs

-- nor a call
abbrev AllSince : ℕ → List Wake → Type 0
AllSince t [] = Unit
AllSince t (w ∷ ws) = (t ≤ w.time) × AllSince t ws

since_join : (t u : ℕ) (a b : List Call) → t ≤ u → AllAt u a → Since t b → Since t (a ++ b)
since_join t u [] b h g s = s
since_join t u (c ∷ a) b h g s = (omega (arith, h, g.0), since_join t u a b h g.1 s)

sent_since : (t : ℕ) (m : MqttMonitor) (ws : List Wake) → AllSince t ws → Since t (sent_by m ws)
unfolding sent_by
sent_since t m [] h = tt
sent_since t m (w ∷ ws) h =
    since_join t w.time (sent_of m w) (sent_by (queue_end m w).monitor ws) h.0 (sent_at m w) (sent_since t (queue_end m w).monitor ws h.1)

-- calls in turn come after the first of them
since_less : (t u : ℕ) (ws : List Wake) → t ≤ u → AllSince u ws → AllSince t ws
since_less t u [] h s = tt
since_less t u (w ∷ ws) h s = (omega (arith, h, s.0), since_less t u ws h s.1)

turn_since : (w : Wake) (ws : List Wake) → InTurn (w ∷ ws) → AllSince w.time ws
turn_since w [] o = tt
turn_since w (v ∷ ws) (later h o) = (h, since_less w.time v.time ws h (turn_since v ws o))

rest_in_turn : (w : Wake) (ws : List Wake) → InTurn (w ∷ ws) → InTurn ws
rest_in_turn w [] o = nothing
rest_in_turn w (v ∷ ws) (later h o) = o

-- so their messages are in order
order_join : (t : ℕ) (a b : List Call) → AllAt t a → Since t b → InOrder b → InOrder (a ++ b)
order_join t [] b h s o = o
order_join t (c ∷ []) [] h s o = run.single c
order_join t (c ∷ []) (d ∷ b) h s o = let e : time c ≤ time d = omega (arith, h.0, s.0) in run.later e o
order_join t (c ∷ d ∷ a) b h s o = let e : time c ≤ time d = omega (arith, h.0, h.1.0) in run.later e (order_join t (d ∷ a) b h.1 s o)

in_order : (m : MqttMonitor) (ws : List Wake) → InTurn ws → InOrder (sent_by m ws)
unfolding sent_by
in_order m [] o = run.nothing
in_order m (w ∷ ws) o =
    let next : MqttMonitor = (queue_end m w).monitor in
    order_join w.time (sent_of m w) (sent_by next ws) (sent_at m w) (sent_since w.time next ws (turn_since w ws o)) (in_order next ws (rest_in_turn w ws o))

pub queued_limits : QueuedLimits
queued_limits m ws =
    record {
      told = told m ws;
      state = state m ws;
      inspected = λ p. inspected m ws (prepared_sound p).formed;
      limits =
          λ p o t short limited.
          let e = told m ws in
          rw e (shipped_limits p (sent_by m ws) (in_order m ws o) (rw e at (inspected m ws (prepared_sound p).formed)) t short limited);
    }
