-- One answer for every public function of `queue`, and nothing asked of its caller (specs/One.antt). Assumes nothing.
use mathlib.Core.List.{List}
use mathlib.Core.Path.{sym, ◌∙◌}
use Prim.Native.Nat.{ℕ}
use Rattle.monitor.specs.declared.state.MqttMonitor.{MqttMonitor}
use Rattle.queue.proofs.RefusalLaws.{ended_once}
use Rattle.queue.specs.contracts.refusal.QueueRefusal.number as refusal-QueueRefusal-number
use Rattle.queue.proofs.refusal.QueueRefusal.number.Reads as refusal-QueueRefusal-number-reads
use Rattle.queue.specs.contracts.run.RunEnd.number as run-RunEnd-number
use Rattle.queue.proofs.run.RunEnd.number.Reads as run-RunEnd-number-reads
use Rattle.queue.specs.contracts.run.run_packets as run-run_packets
use Rattle.queue.proofs.run.run_packets.Reads as run-run_packets-reads
use Rattle.theorems.specs.One.{Any, One, OneLeft}

pub one-refusal-QueueRefusal-number : One refusal-QueueRefusal-number.ended refusal-QueueRefusal-number-reads.Post
one-refusal-QueueRefusal-number κs a x y e f p q = p ∙ sym q

pub any-refusal-QueueRefusal-number : Any refusal-QueueRefusal-number.ended refusal-QueueRefusal-number-reads.Asked
any-refusal-QueueRefusal-number κs a = tt

pub one-run-RunEnd-number : One run-RunEnd-number.ended run-RunEnd-number-reads.Post
one-run-RunEnd-number κs a x y e f p q = p ∙ sym q

pub any-run-RunEnd-number : Any run-RunEnd-number.ended run-RunEnd-number-reads.Asked
any-run-RunEnd-number κs a = tt

pub one-run-run_packets : OneLeft run-run_packets.ended run-run_packets-reads.Post {L = MqttMonitor × List ℕ} (λ κs e. (e.0.now, e.1.1.1.1.0.now))
one-run-run_packets κs a x y e f p q =
    let h = ended_once x y e.0.now f.0.now (p.0 ∙ sym q.0) in (h.0, rw (h.1, p.1, q.1))

pub any-run-run_packets : Any run-run_packets.ended run-run_packets-reads.Asked
any-run-run_packets κs a = tt
