-- `MqttMonitor::plan_for` meets its contract: it is what its calls on parts of the state hand back, together (PlanLaws). Assumes nothing.
use Rattle.monitor.specs.State.{matcher_of}
use Rattle.monitor.proofs.plan.PlanLaws.{composed}
use Rattle.monitor.proofs.state.MqttMonitor.plan_for.Goals as goal

pub returns : goal.returns
returns c =
    let a = c.args in
    let m = a.self.now in
    composed (matcher_of m) m a.msg.now a.topic.now a.payload.now c.gate_for-gate.ensures c.seen_for.ensures c.id_for-id.ensures
    c.spent_for.ensures c.fed_for.ensures c.plan_from.ensures
