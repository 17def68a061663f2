use Rattle.std.proofs.Common.{◌≡◌, get_or, length, take, arith, take_all, drop_of_length-le, append-nil}
use Rattle.std.proofs.lemmas.List.{get_or_default}
use Rattle.std.proofs.lemmas.List.Edits.{map_over_more}
use Rattle.cut.specs.Swap.{swapped}
use Rattle.cut.proofs.swap.SwapLaws.{swapped_all}
use Rattle.cut.proofs.swap.swap.Goals as goal

pub loop-b-preserved : goal.loop-b-preserved
loop-b-preserved c =
    let b = get_or c.loop-b.b-items c.loop-b.b-index 0 in
    let same : b ≡ get_or c.loop-b.b-items c.loop-b.b-index b = get_or_default c.loop-b.b-items c.loop-b.b-index 0 b (omega (arith, c.loop-b.auto.b-items)) in
    rw c.swapped.ensures (map_over_more (swapped c.args.old c.args.new) (take c.min-n.result c.args.s.now) c.loop-b.b-items c.loop-b.b-index b (omega arith) c.loop-b.invariant same)

pub returns : goal.returns
returns c =
    let front = take c.min-n.result c.args.s.now in
    let e : c.loop-b.b-index ≡ length front = omega arith in
    rw (c.loop-b.invariant, e, take_all (length front) front (omega arith), drop_of_length-le front {i = length front} (omega arith), append-nil)
    (swapped_all c.args.old c.args.new c.args.n c.args.s.now c.min-n.ensures)
