-- The calls of a run (`monitor`'s specs/Acts.antt) are the shipped ones: whatever the promise of each of the four methods allows tells, with the state that is left, what that call of a run
-- hands back. So what is claimed of `ours shipped` is claimed of them (request C-24). Assumes nothing.
use Rattle.monitor.specs.contracts.state.MqttMonitor.inspect as state-MqttMonitor-inspect
use Rattle.monitor.proofs.state.MqttMonitor.inspect.Reads as state-MqttMonitor-inspect-reads
use Rattle.monitor.specs.contracts.state.MqttMonitor.remove_ewma_tracker as state-MqttMonitor-remove_ewma_tracker
use Rattle.monitor.proofs.state.MqttMonitor.remove_ewma_tracker.Reads as state-MqttMonitor-remove_ewma_tracker-reads
use Rattle.monitor.specs.contracts.state.MqttMonitor.remove_rate_bucket as state-MqttMonitor-remove_rate_bucket
use Rattle.monitor.proofs.state.MqttMonitor.remove_rate_bucket.Reads as state-MqttMonitor-remove_rate_bucket-reads
use Rattle.monitor.specs.contracts.state.MqttMonitor.set_connect_storm_params as state-MqttMonitor-set_connect_storm_params
use Rattle.monitor.proofs.state.MqttMonitor.set_connect_storm_params.Reads as state-MqttMonitor-set_connect_storm_params-reads
use Rattle.monitor.specs.Acts.{removes, forgets, storms, ours}
use Rattle.monitor.specs.Ended.{called_as}
use Rattle.monitor.specs.Inspect.{inspected_as}
use Rattle.monitor.specs.Runs.{shipped}
use Rattle.theorems.specs.One.{Tells}

pub run_inspects :
    Tells state-MqttMonitor-inspect.ended state-MqttMonitor-inspect-reads.Post (λ κs x e. inspected_as x e.0.now)
    (λ κs a. (ours shipped).inspect a.0.now (record { msg = a.1.0.now; topic = a.1.1.0.now; payload = a.1.1.1.0.now }))
run_inspects κs a x e p = p

pub run_removes :
    Tells state-MqttMonitor-remove_rate_bucket.ended state-MqttMonitor-remove_rate_bucket-reads.Post (λ κs x e. called_as x e.0.now)
    (λ κs a. (ours shipped).ask a.0.now (removes a.1.0.now))
run_removes κs a x e p = rw (p.0, p.1)

pub run_forgets :
    Tells state-MqttMonitor-remove_ewma_tracker.ended state-MqttMonitor-remove_ewma_tracker-reads.Post (λ κs x e. called_as x e.0.now)
    (λ κs a. (ours shipped).ask a.0.now (forgets a.1.0.now))
run_forgets κs a x e p = rw (p.0, p.1)

pub run_storms :
    Tells state-MqttMonitor-set_connect_storm_params.ended state-MqttMonitor-set_connect_storm_params-reads.Post (λ κs x e. called_as x e.0.now)
    (λ κs a. (ours shipped).ask a.0.now (storms a.1.0 a.1.1.0))
run_storms κs a x e p = rw (p.0, p.1)
