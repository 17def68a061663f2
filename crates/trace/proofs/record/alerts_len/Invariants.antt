-- The length of the alerts that the loop has gone over, at most 121 bytes for each. Assumes nothing.
use Prim.Native.Nat.{◌≤◌, ◌*◌}
use mathlib.Core.Path.{◌≡◌}
use lib.ListN.{length, take}
use Rattle.trace.specs.Record.{alerts_text}
use Rattle.trace.proofs.record.alerts_len.Given as goal

abbrev pub invariant-loop-alert : goal.invariant-loop-alert
invariant-loop-alert l = (l.sum ≡ length (alerts_text (take l.alert-index l.alerts))) × (l.sum ≤ 121 * l.alert-index)
