-- `queue::several::put_one` meets its contract. Assumes nothing.
use mathlib.Core.Path.{refl, sym, ap, ◌∙◌}
use native.Mathlib.Omega.{arith}
use lib.ListN.{length}
use Rattle.packets.specs.Messages.{message_told}
use Rattle.queue.proofs.several.LoopLaws.{one_refused, one_within, one_records, one_state}
use Rattle.queue.proofs.several.put_one.Goals as goal

pub returns-in_err-message-clause-unwritten : goal.returns-in_err-message-clause-unwritten
returns-in_err-message-clause-unwritten c =
    let r = c.args.received.now in
    absurd (one_refused r.bytes.now r.place r.now_us r.ok c.requires.read c.requires.one c.message.ensures _ (ap message_told c.in_err-message.was))

pub plan-plan-requires : goal.plan-plan-requires
plan-plan-requires c = let r = c.args.received.now in one_within r.bytes.now r.place r.now_us r.ok c.requires.read c.requires.one (rw c.in_ok-message.was at c.message.ensures)

pub returns-then-room-need-clause-unwritten : goal.returns-then-room-need-clause-unwritten
returns-then-room-need-clause-unwritten c =
    let r = c.args.received.now in
    let t = one_records r.bytes.now r.place r.now_us r.ok c.requires.read c.requires.one (rw c.in_ok-message.was at c.message.ensures) c.args.m.now c.requires.formed c.plan-plan.ensures c.args.n in
    let l = ap length t in
    record { number = refl; full = omega (arith, l, c.if-room-need.true, rw c.result-record.ensures at c.record_len-need.ensures.0); state = refl; buffer = refl }

pub returns-clause-written : goal.returns-clause-written
returns-clause-written c =
    let r = c.args.received.now in
    let e = rw c.in_ok-message.was at c.message.ensures in
    let t = one_records r.bytes.now r.place r.now_us r.ok c.requires.read c.requires.one e c.args.m.now c.requires.formed c.plan-plan.ensures c.args.n in
    let l = ap length t in
    record {
      fits = omega (arith, l, c.if-room-need.false, rw c.result-record.ensures at c.record_len-need.ensures.0);
      wrote = rw t (rw c.result-record.ensures at c.put_record.ensures);
      state = c.apply.ensures ∙ sym (one_state r.bytes.now r.place r.now_us r.ok c.requires.read c.requires.one e c.args.m.now c.requires.formed c.plan-plan.ensures);
    }
