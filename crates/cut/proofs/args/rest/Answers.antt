use Prim.Native.Nat.{◌-◌, ◌+◌}
use mathlib.Core.Path.{◌≡◌, sym, ◌∙◌}
use native.Mathlib.Omega.{arith}
use Rattle.cut.proofs.args.ArgLaws.{rest_turn, rest_end}
use Rattle.cut.proofs.args.rest.Goals as goal

pub loop-preserved : goal.loop-preserved
loop-preserved c =
    let e : c.args.k - (c.loop.counter + 1) ≡ c.args.k - c.loop.counter - 1 = omega arith in
    rw (e, c.after-left.ensures.value) (rest_turn _ _ (omega arith) ∙ c.loop.invariant)

pub returns : goal.returns
returns c = sym (rest_end (c.args.k - c.loop.counter) _ (omega arith)) ∙ c.loop.invariant
