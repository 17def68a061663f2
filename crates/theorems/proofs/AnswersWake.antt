-- One answer for every public function of `wake`, and nothing asked of its caller (specs/One.antt). Assumes nothing.
use mathlib.Core.Path.{sym, ◌∙◌}
use Rattle.wake.specs.contracts.task.hub_queue as task-hub_queue
use Rattle.wake.proofs.task.hub_queue.Reads as task-hub_queue-reads
use Rattle.theorems.specs.One.{Any, OneLeft}

pub one-task-hub_queue : OneLeft task-hub_queue.ended task-hub_queue-reads.Post (λ κs e. e.1.1.1.1.0.now)
one-task-hub_queue κs a x y e f p q = (p.0 ∙ sym q.0, p.1 ∙ sym q.1)

pub any-task-hub_queue : Any task-hub_queue.ended task-hub_queue-reads.Asked
any-task-hub_queue κs a = tt
