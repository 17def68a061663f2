use Rattle.std.proofs.Common.{◌≡◌, ◌-◌, ◌+◌, sym, ◌∙◌, arith}
use Rattle.topics.proofs.covering.WayLaws.{cut_here, cut_on, cut_over}
use Rattle.topics.proofs.covering.first_cut.Goals as goal

pub returns-then-only_later-clause-cut : goal.returns-then-only_later-clause-cut
returns-then-only_later-clause-cut c =
    cut_here _ _ (5 - c.loop-longer.longer) (omega arith) (omega (arith, c.saturating_sub-k.ensures)) c.loop-longer.invariant (sym c.only_later.ensures ∙ c.if-only_later.true)

pub loop-longer-preserved : goal.loop-longer-preserved
loop-longer-preserved c =
    let e : 5 - (c.loop-longer.longer + 1) ≡ 5 - c.loop-longer.longer - 1 = omega arith in
    rw e (cut_on _ _ (5 - c.loop-longer.longer) (omega arith) (omega (arith, c.saturating_sub-k.ensures)) c.loop-longer.invariant (sym c.only_later.ensures ∙ c.if-only_later.false))

pub returns-clause-cut : goal.returns-clause-cut
returns-clause-cut c = cut_over _ _ (5 - c.loop-longer.longer) (omega arith) ∙ c.loop-longer.invariant
