-- `queue::several::put_messages` meets its contract. The invariant: whoever writes the records that are left has written all, and the state comes to the same. Assumes nothing.
use mathlib.Core.Bool.{true}
use mathlib.Core.Path.{◌≡◌}
use Prim.Native.Nat.{◌+◌, ◌-◌}
use Rattle.monitor.specs.Runs.{shipped, after_by}
use Rattle.monitor.specs.State.{well_formed}
use Rattle.packets.specs.Taken.{calls_at}
use Rattle.packets.proofs.messages.LeftLaws.{Good}
use Rattle.queue.specs.Queue.{records_from}
use Rattle.queue.proofs.several.LoopLaws.{Going, left_calls}
use Rattle.queue.proofs.several.put_messages.Given as goal

abbrev pub invariant-loop-k : goal.invariant-loop-k
invariant-loop-k l =
    record {
      good : Good l.received.bytes.now l.received.place l.received.now_us l.received.ok (l.n + l.received.packet.messages - l.k) l.step;
      formed : well_formed l.m ≡ true;
      going :
          Going l.initial.out l.out l.at l.end (records_from l.n l.initial.m (calls_at l.received.bytes.now l.received.place l.received.now_us l.received.ok))
          (records_from l.k l.m (left_calls l.received.bytes.now l.received.place l.received.now_us l.received.ok (l.n + l.received.packet.messages - l.k) l.step));
      state :
          after_by shipped l.m (left_calls l.received.bytes.now l.received.place l.received.now_us l.received.ok (l.n + l.received.packet.messages - l.k) l.step)
          ≡ after_by shipped l.initial.m (calls_at l.received.bytes.now l.received.place l.received.now_us l.received.ok);
    }
