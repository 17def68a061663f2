use mathlib.Core.Path.{refl, sym, ◌∙◌}
use native.Mathlib.Omega.{arith}
use Rattle.queue.proofs.run.RunLaws.{ill_formed, run_start, run_long, run_place, state_formed, run_over, run_stop, run_turn, goes_on}
use Rattle.queue.proofs.run.run_packets.Goals as goal

pub returns-then-not-is_well_formed : goal.returns-then-not-is_well_formed
returns-then-not-is_well_formed c =
    let h = ill_formed _ _ _ _ _ (sym c.is_well_formed.ensures ∙ c.if-not-is_well_formed.true) in
    record { end = h.0; bytes = h.1 }

pub loop-reached-init : goal.loop-reached-init
loop-reached-init c = run_start _ _ _ _ _ (sym c.is_well_formed.ensures ∙ c.if-not-is_well_formed.false)

pub run_packet-requires : goal.run_packet-requires
run_packet-requires c =
    let i = c.loop-reached.invariant in
    record { formed = state_formed _ _ _ _ _ i; few = i.few; place = c.loop-reached-test.true; room = run_place _ _ _ _ _ i }

pub loop-reached-smaller : goal.loop-reached-smaller
loop-reached-smaller c =
    let g = rw c.in-Ok.is at c.run_packet.ensures.goes in
    omega (arith, c.loop-reached-test.true, goes_on g)

pub loop-reached-preserved : goal.loop-reached-preserved
loop-reached-preserved c = run_turn _ _ _ _ _ c.loop-reached.invariant c.loop-reached-test.true (rw c.in-Ok.is at c.run_packet.ensures.goes)

pub returns-in-Err : goal.returns-in-Err
returns-in-Err c =
    let h = run_stop _ _ _ _ _ c.loop-reached.invariant c.loop-reached-test.true (rw c.in-Err.is at c.run_packet.ensures.stops) in
    record { end = h.0; bytes = h.1 }

pub returns : goal.returns
returns c = let h = run_over _ _ _ _ _ c.loop-reached.invariant c.loop-reached-test.false in record { end = h.0; bytes = h.1 }
