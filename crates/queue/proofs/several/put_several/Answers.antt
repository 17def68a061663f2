-- `queue::several::put_several` meets its contract. Assumes nothing.
use mathlib.Core.Path.{◌≡◌, refl, sym, ap, ◌∙◌}
use borrow.Author.Rules.{rules}
use lib.ListN.{length}
use Rattle.packets.specs.Taken.{calls_at}
use Rattle.queue.specs.Turn.{Unwritten}
use Rattle.queue.proofs.RefusalLaws.{queue_some}
use Rattle.queue.proofs.several.LoopLaws.{several_records, room_fits, room_full}
use Rattle.queue.proofs.several.put_several.Goals as goal

pub returns-in_err-check_room-clause-unwritten : goal.returns-in_err-check_room-clause-unwritten
returns-in_err-check_room-clause-unwritten c =
    let r = c.args.received.now in
    let m = c.args.m.now in
    let out = c.args.out.now in
    let e = c.in_err-check_room.field-0.0 in
    let t = several_records r.bytes.now r.place r.now_us r.ok c.requires.read c.requires.several m c.requires.formed c.args.n in
    let h = room_full _ _ _ (queue_some e) (rw t at c.in_err-check_room.ensures) in
    let u : Unwritten m m out out c.args.at c.args.n (calls_at r.bytes.now r.place r.now_us r.ok) e = record { number = h.0; full = h.1; state = refl; buffer = refl } in
    search (rules, u)

pub returns-clause-written : goal.returns-clause-written
returns-clause-written c =
    let r = c.args.received.now in
    let t = several_records r.bytes.now r.place r.now_us r.ok c.requires.read c.requires.several c.args.m.now c.requires.formed c.args.n in
    let put = c.in_ok-put_messages.ensures in
    record { fits = room_fits _ _ (rw t at c.in_ok-check_room.ensures); wrote = put.wrote; state = put.state }
