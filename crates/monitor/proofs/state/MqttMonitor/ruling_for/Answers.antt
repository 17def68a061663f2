-- `MqttMonitor::ruling_for` meets its contract: where no rule takes the topic, the search ends with the rules. Assumes nothing.
use Rattle.std.proofs.Common.{◌≡◌, rules, length}
use Rattle.tables.proofs.ScanLaws.{placed_none}
use Rattle.monitor.specs.State.{matcher_of}
use Rattle.monitor.proofs.gate.GateLaws.{ruled_none}
use Rattle.monitor.proofs.state.MqttMonitor.ruling_for.Goals as goal

pub returns-in-None : goal.returns-in-None
returns-in-None c =
    let m = c.args.self.now in
    let full : length m.rules ≡ 32 = search rules in
    let searched = rw c.from-count.ensures at c.first_rule.ensures in
    let default = rw c.places.ensures at c.ruled_by_default.ensures in
    ruled_none (matcher_of m) m.rules m.rule_count m.default_action c.args.topic.now full (placed_none searched c.in-None.is)
    (rw c.from-count.ensures at default)
