-- The run of a capture that was read, in the words of its contract. Its records fit into the room that it was given, so they are counted in the buffer and are its first bytes. Assumes nothing.
use mathlib.Core.Bool.{Bool}
use mathlib.Core.List.{List}
use mathlib.Core.Path.{◌≡◌}
use Prim.Native.Nat.{ℕ}
use lib.ListN.{length, take}
use Rattle.io.specs.Counts.{IsPrefixLen}
use Rattle.monitor.specs.declared.state.MqttMonitor.{MqttMonitor}
use Rattle.queue.specs.Queue.{QueueEnd, Wake, wake_of, records_of, sent_of, queue_end, queue_kept}
use Rattle.queue.proofs.Singly.{as_singly}
use Rattle.std.proofs.Common.{Result, Ok, ℤ}
use Rattle.streams.proofs.StreamLaws.{stored}
use Rattle.hubpackets.specs.Inspected.{end_to, records_to}

module _ (m : MqttMonitor) (s : List ℕ) (time : ℕ) (ok : Bool) (d : List ℕ) (read : Result ℕ ℤ) (k : ℕ) (e : read ≡ Ok k) where
  abbrev wake : Wake
  wake = wake_of (take k s) time ok (length d)

  pub recorded : {x : QueueEnd} {out : List ℕ} → x ≡ queue_end m wake → out ≡ queue_kept m wake d
      → (x ≡ end_to m time ok (length d) read s) × (IsPrefixLen x.length out × (take x.length out ≡ records_to m time ok (length d) read s))
  unfolding end_to records_to
  recorded end kept =
      let whole = stored d (records_of m (sent_of m wake)) (as_singly m wake).fits in
      (rw e end, (rw (end, kept) whole.0, rw (end, kept, e) whole.1))
