-- One answer for every public function of `loops`, and nothing asked of its caller (specs/One.antt). Assumes nothing.
use mathlib.Core.Path.{sym, ◌∙◌}
use Rattle.loops.specs.contracts.inspections.hub_loop_rules as inspections-hub_loop_rules
use Rattle.loops.proofs.inspections.hub_loop_rules.Reads as inspections-hub_loop_rules-reads
use Rattle.loops.specs.contracts.inspections.hub_loop as inspections-hub_loop
use Rattle.loops.proofs.inspections.hub_loop.Reads as inspections-hub_loop-reads
use Rattle.theorems.specs.One.{Any, One}

pub one-inspections-hub_loop_rules : One inspections-hub_loop_rules.ended inspections-hub_loop_rules-reads.Post
one-inspections-hub_loop_rules κs a x y e f p q = p ∙ sym q

pub any-inspections-hub_loop_rules : Any inspections-hub_loop_rules.ended inspections-hub_loop_rules-reads.Asked
any-inspections-hub_loop_rules κs a = tt

pub one-inspections-hub_loop : One inspections-hub_loop.ended inspections-hub_loop-reads.Post
one-inspections-hub_loop κs a x y e f p q = p ∙ sym q

pub any-inspections-hub_loop : Any inspections-hub_loop.ended inspections-hub_loop-reads.Asked
any-inspections-hub_loop κs a = tt
