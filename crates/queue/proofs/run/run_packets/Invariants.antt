-- `queue::run::run_packets` meets its contract. The invariant: the messages done so far have left the state, their records stand in the buffer, and the definition's run goes on from the place
-- (RunLaws, `Running`); the measure: the bytes that are left. Assumes nothing.
use Prim.Native.Nat.{◌-◌}
use lib.ListN.{length}
use Rattle.queue.proofs.run.RunLaws.{Running}
use Rattle.queue.proofs.run.run_packets.Given as goal

abbrev pub invariant-loop-reached : goal.invariant-loop-reached
invariant-loop-reached l = Running l.initial.m l.bytes l.now_us l.ok l.initial.out l.out l.m l.reached

abbrev pub decreases-loop-reached : goal.decreases-loop-reached
decreases-loop-reached l = length l.bytes - l.reached.place
