-- The alerts that the loop has gone over are written from `at` on, and `p` is the place after them. Assumes nothing.
use lib.ListN.{take}
use Rattle.lines.specs.Wrote.{Wrote}
use Rattle.trace.specs.Record.{alerts_text}
use Rattle.trace.proofs.record.put_alerts.Given as goal

abbrev pub invariant-loop-alert : goal.invariant-loop-alert
invariant-loop-alert l = Wrote l.initial.out l.out l.at (alerts_text (take l.alert-index l.alerts)) l.p
