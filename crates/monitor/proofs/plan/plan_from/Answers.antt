-- `plan::plan_from` meets its contract: the payload hash is missed nowhere where it was not made (PlanLaws). Assumes nothing.
use mathlib.Core.Path.{refl}
use Rattle.monitor.specs.Plan.{denial_of}
use Rattle.monitor.proofs.plan.PlanLaws.{planned}
use Rattle.monitor.proofs.plan.plan_from.Goals as goal

pub returns : goal.returns
unfolding denial_of
returns c =
    let a = c.args in
    let d = a.decided in
    planned a.msg.now a.payload.now a.next_id a.total a.gate.now d.seen d.spent d.fed c.denial_for-denial.ensures refl c.hash_for-hash.ensures
    c.raise_all.ensures
