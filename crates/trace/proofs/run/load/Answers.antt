use Prim.Native.Nat.{◌-◌}
use mathlib.Core.Path.{◌≡◌}
use native.Mathlib.Omega.{arith}
use Rattle.std.proofs.lemmas.Result.{err_from_is_err_and}
use Rattle.monitor.specs.Calls.{fresh}
use Rattle.trace.proofs.run.LoadLaws.{load_long, load_none, load_start, load_stop, load_turn, load_end}
use Rattle.trace.proofs.run.load.Goals as goal

pub returns-then-text-gt-TEXT_MAX : goal.returns-then-text-gt-TEXT_MAX
returns-then-text-gt-TEXT_MAX c = rw c.fresh.ensures (load_long _ _ c.if-text-gt-TEXT_MAX.true)

pub returns-then-opening-ne0 : goal.returns-then-opening-ne0
unfolding fresh
returns-then-opening-ne0 c =
    rw (c.fresh.ensures, c.from.ensures) (load_none _ _ c.if-text-gt-TEXT_MAX.false c.read_opening-opening.ensures.value c.if-opening-ne0.true)

pub loop-rule-init : goal.loop-rule-init
unfolding fresh
loop-rule-init c =
    let all : c.read_opening-opening.result.rules - 0 ≡ c.read_opening-opening.result.rules = omega arith in
    rw (all, c.fresh.ensures) (load_start _ _ c.if-text-gt-TEXT_MAX.false c.read_opening-opening.ensures.value c.if-opening-ne0.false)

pub load_rule-requires : goal.load_rule-requires
load_rule-requires c = record { formed = c.loop-rule.invariant.sound.formed; few = omega (arith, c.loop-rule.invariant.short) }

pub returns-in_err-place : goal.returns-in_err-place
returns-in_err-place c =
    let p = err_from_is_err_and c.from_residual.result c.from_residual.ensures.1 in
    rw (p.1, p.2) (load_stop c.loop-rule.invariant (omega (arith, c.loop-rule-test.true)) c.in_err-place.field-0.0 c.in_err-place.ensures)

pub loop-rule-preserved : goal.loop-rule-preserved
loop-rule-preserved c = load_turn c.loop-rule.invariant (omega (arith, c.loop-rule-test.true)) c.in_ok-place.ensures (omega (arith, c.loop-rule-test.true))

pub returns : goal.returns
returns c = load_end c.loop-rule.invariant (omega (arith, c.loop-rule-test.false))
