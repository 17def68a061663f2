-- `packets_text::written::texts_len` meets its contract. Assumes nothing.
use Prim.Native.Nat.{◌+◌, ◌-◌, ◌*◌, ◌≤◌}
use mathlib.Core.Path.{◌≡◌}
use lib.ListN.{length}
use Rattle.packets.proofs.messages.LeftLaws.{left, Good}
use Rattle.packets_text.specs.PacketText.{texts_of, packet_text}
use Rattle.packets_text.proofs.written.texts_len.Given as goal

abbrev pub invariant-loop : goal.invariant-loop
invariant-loop l =
    let left_over = l.fn.packet.messages - l.counter in
    record {
      all : l.n + length (texts_of l.bytes (left l.bytes l.place l.now_us l.ok left_over l.step)) ≡ length (packet_text l.bytes l.place l.now_us l.ok);
      good : Good l.bytes l.place l.now_us l.ok left_over l.step;
      short : l.n ≤ l.counter * 843;
      few : l.fn.packet.messages ≤ 134217730;
    }
