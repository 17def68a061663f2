-- `inspections::hub_loop` meets its contract: one turn of the loop. Assumes nothing.
use Rattle.std.proofs.Common.{length}
use Rattle.loops.proofs.inspections.LoopLaws.{next_within, state_turn, allowed_turn, from_turn}
use Rattle.loops.proofs.inspections.hub_loop.Goals as goal

pub loop-k-preserved : goal.loop-k-preserved
loop-k-preserved c =
    let i = c.loop-k.invariant in
    let a = c.args in
    let long = length a.topics.now in
    let k = c.loop-k.k in
    let next = rw c.from-wide.ensures at c.next_from-from.ensures in
    let fits = rw c.from-wide.ensures at c.if-topics-wide.false in
    let planned = rw c.from-wide.ensures at c.plan_for-plan.ensures in
    record {
      place = from_turn long a.width k i.place next;
      whole = rw next (next_within long a.width c.loop-k.from fits);
      state = state_turn _ a.topics.now a.width a.size k i.state c.loop_message-msg.ensures i.place planned c.apply.ensures;
      count = allowed_turn _ a.topics.now a.width a.size k i.state c.loop_message-msg.ensures i.place planned i.count c.count_if-allowed.ensures;
    }
