-- How much room is enough (specs/Enough.antt): each record has at most 528 bytes, so long as ids, counts and ordinals are below 2 ^ 64, which a run keeps. Assumes nothing.
use mathlib.Core.Bool.{true}
use mathlib.Core.List.{List, [], ◌∷◌, ◌++◌}
use mathlib.Core.Path.{◌≡◌, refl, ap, ◌∙◌}
use Prim.Native.Nat.{ℕ, ◌+◌, ◌*◌, ◌^◌, ◌≤◌, ◌<◌}
use native.Mathlib.Omega.{arith}
use lib.ListN.{length, length-append, length-map}
use Rattle.laws.proofs.Cases.{by}
use Rattle.monitor.specs.Inspect.{applied}
use Rattle.monitor.specs.Plan.{plan_of}
use Rattle.monitor.specs.Ranged.{Ranged}
use Rattle.monitor.specs.Runs.{Call, shipped, replies_by}
use Rattle.monitor.specs.State.{well_formed, matcher_of}
use Rattle.monitor.specs.declared.state.MqttMonitor.{MqttMonitor}
use Rattle.monitor.proofs.Replies.{AllExact, exact_join, shipped_done, done_formed}
use Rattle.trace.specs.AsRun.{records_text}
use Rattle.trace.proofs.PlanBounds.{Counted, applied_counted, result_short}
use Rattle.packets.specs.Messages.{messages_at}
use Rattle.packets.specs.Packet.{packet_at}
use Rattle.packets.specs.Taken.{call_of}
use Rattle.packets.proofs.Steps.{steps}
use Rattle.packets.proofs.messages.LeftLaws.{calls_exact}
use Rattle.packets.proofs.packet.AcceptedLaws.{packet_is}
use Rattle.queue.specs.Enough.{Enough}
use Rattle.queue.specs.Queue.{Wake, calls_in, records_of, queue_refusal, Ran, ran_of, sent_of}
use Rattle.queue.proofs.Singly.{reaches, ends, sent_exact}
use Rattle.queue.proofs.run.RanLaws.{formless, packet_good, packet_full}

counted : {m : MqttMonitor} → Ranged m → Counted m
counted r = record { id64 = r.id_fits; inspected64 = r.inspected_fits; total64 = r.alerts_fit }

-- the records of some messages
records_short : (cs : List Call) (m : MqttMonitor) (n : ℕ) → Counted m → well_formed m ≡ true → AllExact cs → n + length cs ≤ 2 ^ 64
    → length (records_text n (replies_by shipped m cs)) ≤ length cs * 528
unfolding records_text replies_by
records_short [] m n c w e h = omega arith
records_short (x ∷ cs) m n c w e h =
    let next : MqttMonitor = applied m (plan_of (matcher_of m) m x.msg x.topic x.payload) in
    let first = result_short (matcher_of m) m x.msg x.topic x.payload c n (omega arith) in
    let others = records_short cs next (n + 1) (applied_counted (matcher_of m) m x.msg x.topic x.payload c) (done_formed m x w e.0) e.1 (omega arith) in
    rw (shipped_done m x w e.0, length-append) (omega (arith, first, others))

module _ (m : MqttMonitor) (w : Wake) (r : Ranged m) (small : length w.bytes < 2 ^ 64) (full : (ran_of m w).number ≡ 28) where
  -- it was not 10
  formed : well_formed m ≡ true
  formed = by (well_formed m) (λ t. t) (λ f. absurd (omega (arith, ap (λ (x : Ran). x.number) (formless m w f), full)))

  abbrev place : ℕ
  place = (ran_of m w).place

  -- the packet at its place is one that did not fit
  stopped : (place < length w.bytes) × (queue_refusal m w place (sent_of m w) ≡ 28)
  stopped = let e = (ends m w formed).refused (λ z. omega (arith, z, full)) in (e.0, e.1 ∙ full)

  good : ((packet_at w.bytes place).number ≡ 0) × (w.room < length (records_of m (sent_of m w ++ calls_in w place)))
  good = packet_full m w place (sent_of m w) stopped.1

  -- each message took two bytes at least
  few : length (sent_of m w) * 2 ≤ place
  few =
      reaches m w (λ at sent. length sent * 2 ≤ at)
      (λ at sent l z h.
      let n = packet_good m w at sent z in
      let k = length-map (messages_at w.bytes at w.time w.ok) (call_of w.bytes) ∙ steps.counted w.bytes at w.time w.ok n in
      rw length-append (omega (arith, h, k, steps.few w.bytes at n)))
      (omega arith)

  calls : length (calls_in w place) ≡ (packet_at w.bytes place).messages
  calls = length-map (messages_at w.bytes place w.time w.ok) (call_of w.bytes) ∙ steps.counted w.bytes place w.time w.ok good.0

  -- and so do those of the packet, which lies in the bytes
  all_few : (length (sent_of m w) + (packet_at w.bytes place).messages) * 2 ≤ length w.bytes
  all_few = omega (arith, few, steps.few w.bytes place good.0, (packet_is w.bytes place refl).1.inside good.0)

  too_short : w.room < (length (sent_of m w) + (packet_at w.bytes place).messages) * 528
  too_short =
      let all = sent_of m w ++ calls_in w place in
      let n = length-append (sent_of m w) (calls_in w place) in
      let e = exact_join (sent_of m w) (calls_in w place) (sent_exact m w) (calls_exact w.bytes place w.time w.ok good.0) in
      let h = records_short all m 1 (counted r) formed e (omega (arith, n, calls, all_few, small)) in
      omega (arith, good.1, h, n, calls)

pub enough : Enough
enough =
    record {
      short = λ m w r small full. too_short m w r small full;
      ample = λ m w r small room full. omega (arith, too_short m w r small full, all_few m w r small full, room);
    }
