use mathlib.Core.Path.{refl, ◌∙◌}
use native.Mathlib.Omega.{arith}
use Rattle.packets.proofs.bodies.LookLaws.{look_count, look_first, look_end, filters_turn, filters_last, filters_end}
use Rattle.packets.proofs.bodies.look_at_filters.Goals as goal

pub loop-at-init : goal.loop-at-init
loop-at-init c = (rw c.look_first-seen.ensures (look_first _ _), rw c.look_first-seen.ensures (omega arith))

pub returns-in_default : goal.returns-in_default
returns-in_default c =
    let g = rw c.in_default.is at c.look_on-seen.ensures in
    look_end _ _ ∙ filters_last _ _ c.loop-at-test.true c.in_default.ensures.value _ g refl ∙ c.loop-at.invariant.0

pub loop-at-preserved : goal.loop-at-preserved
loop-at-preserved c =
    let p = c.in-Some.ensures in
    let g = rw c.in-Some.is at c.look_on-seen.ensures in (
      filters_turn _ _ c.loop-at-test.true p.value _ g refl ∙ c.loop-at.invariant.0,
      let h = p.within.further refl in let k = look_count _ _ _ g in omega (arith, c.loop-at.invariant.1),
    )

pub returns : goal.returns
returns c = filters_end _ _ _ c.loop-at-test.false ∙ c.loop-at.invariant.0
