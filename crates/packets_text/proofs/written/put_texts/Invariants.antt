-- `packets_text::written::put_texts` meets its contract. Assumes nothing.
use Prim.Native.Nat.{ℕ, ◌-◌}
use mathlib.Core.List.{List}
use mathlib.Core.Path.{◌≡◌}
use lib.ListN.{length}
use Rattle.lines.specs.Wrote.{Wrote}
use Rattle.packets.proofs.messages.LeftLaws.{left, Good}
use Rattle.packets_text.specs.PacketText.{texts_of, packet_text}
use Rattle.packets_text.proofs.written.put_texts.Given as goal

abbrev pub invariant-loop : goal.invariant-loop
invariant-loop l =
    let left_over = l.fn.packet.messages - l.counter in
    record {
      all :
          (f : List ℕ) (r : ℕ) → Wrote l.out f l.at (texts_of l.bytes (left l.bytes l.place l.now_us l.ok left_over l.step)) r
          → Wrote l.initial.out f 0 (packet_text l.bytes l.place l.now_us l.ok) r;
      good : Good l.bytes l.place l.now_us l.ok left_over l.step;
      long : length l.out ≡ length l.initial.out;
    }
