-- `queue::several::check_room` meets its contract. The invariant: the records that are left fit into the room that is left exactly where all fit into all of it. Assumes nothing.
use mathlib.Core.Path.{◌≡◌}
use Prim.Native.Nat.{◌+◌, ◌-◌}
use lib.Dec.{leb}
use lib.ListN.{length}
use Rattle.packets.specs.Taken.{calls_at}
use Rattle.packets.proofs.messages.LeftLaws.{Good}
use Rattle.queue.specs.Several.{book_of, light_text}
use Rattle.queue.proofs.several.LoopLaws.{left_calls}
use Rattle.queue.proofs.several.check_room.Given as goal

abbrev pub invariant-loop-k : goal.invariant-loop-k
invariant-loop-k l =
    let r = l.received in
    let unmeasured = l.n + r.packet.messages - l.k in
    record {
      good : Good r.bytes.now r.place r.now_us r.ok unmeasured l.step;
      alike :
          leb (length (light_text (book_of l.m) l.k l.next_id l.total (left_calls r.bytes.now r.place r.now_us r.ok unmeasured l.step))) l.left
          ≡ leb (length (light_text (book_of l.m) l.n l.m.next_alert_id l.m.total_alerts (calls_at r.bytes.now r.place r.now_us r.ok))) l.room;
    }
