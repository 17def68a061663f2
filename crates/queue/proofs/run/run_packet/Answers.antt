-- `queue::run::run_packet` meets its contract. Assumes nothing.
use Prim.Native.Nat.{ℕ, ◌+◌, ◌≤◌, ◌<◌}
use mathlib.Core.List.{List}
use mathlib.Core.Path.{◌≡◌, refl, sym, ap, ◌∙◌}
use native.Mathlib.Omega.{arith}
use lib.ListN.{length}
use borrow.Author.Rules.{rules}
use Rattle.packets.specs.Packet.{ToldPacket, packet_told, packet_at}
use Rattle.packets.specs.declared.packet.Packet.{Packet}
use Rattle.packets.proofs.Steps.{steps}
use Rattle.packets.proofs.packet.AcceptedLaws.{packet_is}
use Rattle.queue.specs.Turn.{IsRead}
use Rattle.queue.proofs.run.run_packet.Goals as goal

-- each message takes two bytes at least, so ordinals fit as long as bytes do
ordinals : (s : List ℕ) (place done : ℕ) {p : Packet} → IsRead s place p → done + done ≤ place → length s < 18446744073709551616 → done + 1 + p.messages < 18446744073709551616
ordinals s place done {p} e few long =
    let z : (packet_at s place).number ≡ 0 = sym (ap (λ (t : ToldPacket). t.number) e) in
    let i = (packet_is s place refl).1 in
    omega (arith, few, long, steps.few s place z, i.some z, i.inside z, ap (λ (t : ToldPacket). t.messages) e)

pub put_several-requires-clause-messages_bound : goal.put_several-requires-clause-messages_bound
put_several-requires-clause-messages_bound c = let h = ordinals c.args.bytes.now c.args.reached.place c.args.reached.done c.in_ok-packet.ensures.value c.requires.few in search (rules, h)

pub overflow_add-result-2 : goal.overflow_add-result-2
overflow_add-result-2 c = let h = ordinals c.args.bytes.now c.args.reached.place c.args.reached.done c.in_ok-packet.ensures.value c.requires.few in search (rules, h)
