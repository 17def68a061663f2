-- `packets::filters::filter_at` meets its contract. Assumes nothing.
use mathlib.Core.Path.{sym, ◌∙◌}
use native.Mathlib.Omega.{arith}
use Rattle.packets.proofs.filters.WalkLaws.{request_is, filter_good, filter_is}
use Rattle.packets.proofs.filters.filter_at.Goals as goal

pub overflow_cast-result : goal.overflow_cast-result
overflow_cast-result c = let h = request_is _ (sym c.request_fine.ensures ∙ c.if-not-request_fine.false) in omega arith

pub returns : goal.returns
returns c =
    let e = rw c.begin_at.ensures at c.in_ok-f.ensures.value in
    let r = sym c.request_fine.ensures ∙ c.if-not-request_fine.false in
    let h = filter_is _ _ _ (filter_good c.args.subscribe c.args.b.now c.args.at e c.in_ok-q.ensures r) in
    record { value = h.0; within = h.1 }
