-- A refusal of a run has a number, and no two the same one; so what a run is told as (specs/Queue.antt, `ended`) is all of it. Assumes nothing.
use mathlib.Core.Path.{◌≡◌, refl, ap}
use Prim.Native.Nat.{ℕ, ◌≤◌}
use native.Mathlib.Omega.{arith}
use Rattle.std.specs.Prelude.{Result}
use Rattle.laws.proofs.Refusals.{refusal_once}
use Rattle.monitor.specs.declared.state.MqttMonitor.{MqttMonitor}
use Rattle.packets.specs.Refusal.{refusal_number}
use Rattle.packets.specs.declared.refusal.PacketRefusal.{PacketRefusal}
use Rattle.packets.specs.declared.refusal.PacketRefusal.TheVariants.{Incomplete, Malformed, TooLong}
use Rattle.packets.proofs.RefusalLaws.{refusal_same}
use Rattle.queue.specs.Queue.{QueueEnd, ended}
use Rattle.queue.specs.Refusal.{queue_number}
use Rattle.queue.specs.declared.refusal.QueueRefusal.{QueueRefusal}
use Rattle.queue.specs.declared.refusal.QueueRefusal.TheVariants.{BadState, NoRoom, BadPacket}
use Rattle.queue.specs.declared.run.RunEnd.{RunEnd}

-- those of packets are others than the run's own
packet_own : (e : PacketRefusal) → 31 ≤ refusal_number e
packet_own Incomplete = omega arith
packet_own Malformed = omega arith
packet_own TooLong = omega arith

queue_real : (e : QueueRefusal) → 1 ≤ queue_number e
queue_real BadState = omega arith
queue_real NoRoom = omega arith
queue_real (BadPacket e) = omega (arith, packet_own e)

pub queue_some : (e : QueueRefusal) → queue_number e ≡ 0 → ⊥
queue_some e z = omega (arith, z, queue_real e)

queue_same : (e f : QueueRefusal) → queue_number e ≡ queue_number f → e ≡ f
queue_same BadState BadState z = refl
queue_same BadState NoRoom z = absurd (omega arith)
queue_same BadState (BadPacket f) z = absurd (omega (arith, z, packet_own f))
queue_same NoRoom BadState z = absurd (omega arith)
queue_same NoRoom NoRoom z = refl
queue_same NoRoom (BadPacket f) z = absurd (omega (arith, z, packet_own f))
queue_same (BadPacket e) BadState z = absurd (omega (arith, z, packet_own e))
queue_same (BadPacket e) NoRoom z = absurd (omega (arith, z, packet_own e))
queue_same (BadPacket e) (BadPacket f) z = ap BadPacket (refusal_same e f z)

run_end_is : {a b : Result Unit QueueRefusal} {p q done d length l : ℕ} → a ≡ b → p ≡ q → done ≡ d → length ≡ l
    → ◌≡◌ {A = RunEnd} (record { outcome = a; reached = record { place = p; done = done; length = length } }) (record { outcome = b; reached = record { place = q; done = d; length = l } })
run_end_is a p d l = rw (a, p, d, l)

pub ended_once : (r s : RunEnd) (m n : MqttMonitor) → ended r m ≡ ended s n → (r ≡ s) × (m ≡ n)
ended_once r s m n e =
    let outcome = refusal_once queue_number queue_same queue_real r.outcome s.outcome (ap (λ (x : QueueEnd). x.number) e) in (
      run_end_is outcome (ap (λ (x : QueueEnd). x.place) e) (ap (λ (x : QueueEnd). x.done) e) (ap (λ (x : QueueEnd). x.length) e),
      ap (λ (x : QueueEnd). x.monitor) e,
    )
