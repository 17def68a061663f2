use lib.Seq.{take_all}
use Rattle.std.proofs.Common.{rules, ◌<◌, length}
use Rattle.lines.proofs.put.WroteLaws.{wrote_none, wrote_then, wrote_length}
use Rattle.trace.specs.Record.{alerts_text}
use Rattle.trace.proofs.record.RecordLaws.{alerts_more}
use Rattle.trace.proofs.record.put_alerts.Goals as goal

pub loop-alert-init : goal.loop-alert-init
unfolding alerts_text
loop-alert-init c = wrote_none _ _

pub loop-alert-preserved : goal.loop-alert-preserved
loop-alert-preserved c =
    let here : c.loop-alert.alert-index < length c.args.alerts.now = search rules in
    rw (alerts_more c.args.alerts.now c.loop-alert.alert-index here) (wrote_then c.loop-alert.invariant c.put_alert-p.ensures)

pub shape_of-out : goal.shape_of-out
shape_of-out c = wrote_length c.loop-alert.invariant

pub returns : goal.returns
returns c = rw (take_all c.loop-alert.alert-index c.args.alerts.now c.loop-alert-test.false) at c.loop-alert.invariant
