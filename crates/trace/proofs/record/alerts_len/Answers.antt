use Rattle.std.proofs.Common.{rules, ◌<◌, arith}
use lib.ListN.{length, length-append}
use lib.Seq.{take_all}
use Rattle.trace.specs.Record.{alerts_text}
use Rattle.trace.proofs.record.RecordLaws.{alerts_more}
use Rattle.trace.proofs.record.alerts_len.Goals as goal

pub loop-alert-init : goal.loop-alert-init
unfolding alerts_text
loop-alert-init c = (omega arith, omega arith)

pub loop-alert-preserved : goal.loop-alert-preserved
loop-alert-preserved c =
    let here : c.loop-alert.alert-index < length c.args.alerts.now = search rules in
    (rw (alerts_more c.args.alerts.now c.loop-alert.alert-index here, length-append) (omega arith), omega arith)

pub returns : goal.returns
returns c =
    let all = take_all c.loop-alert.alert-index c.args.alerts.now c.loop-alert-test.false in
    (rw all at c.loop-alert.invariant.0, omega (arith, c.loop-alert.auto.alert-index-end, c.requires, c.loop-alert.invariant.1))
