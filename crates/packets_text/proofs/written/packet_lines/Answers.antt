-- `packets_text::written::packet_lines` meets its contract. Assumes nothing.
use Rattle.std.proofs.lemmas.Result.{err_from_is_err_and}
use mathlib.Core.Path.{refl, ◌∙◌}
use native.Mathlib.Omega.{arith}
use lib.ListN.{length}
use Rattle.packets.proofs.RefusalLaws.{refusal_some}
use Rattle.packets_text.proofs.written.WrittenLaws.{refused_packet, refused_room, refused_none, end_refused, end_whole, kept_whole}
use Rattle.packets_text.proofs.written.packet_lines.Goals as goal

pub returns-in_err-packet : goal.returns-in_err-packet
returns-in_err-packet c =
    let p = err_from_is_err_and c.from_residual.result c.from_residual.ensures.1 in
    let some = refusal_some c.in_err-packet.field-0.0 in
    let e = end_refused _ _ _ _ c.args.out.now (refused_packet _ _ _ _ c.in_err-packet.ensures.value some _) some in
    rw (p.1, p.2) (record { answer = e.0; buffer = e.1; within = omega arith })

pub returns-then-out-need : goal.returns-then-out-need
returns-then-out-need c =
    let a = c.args in
    let r = refused_room a.bytes.now a.place a.now_us a.ok c.in_ok-packet.ensures.value refl (length a.out.now)
    (omega (arith, c.in_ok-need.ensures, c.if-out-need.true)) in
    let e = end_refused a.bytes.now a.place a.now_us a.ok a.out.now r (λ z. absurd (omega arith)) in
    record { answer = e.0; buffer = e.1; within = omega arith }

pub returns : goal.returns
returns c =
    let r = refused_none _ _ _ _ c.in_ok-packet.ensures.value refl (length c.args.out.now) (omega (arith, c.in_ok-need.ensures, c.if-out-need.false)) in
    record {
      answer = end_whole _ _ _ _ c.args.out.now r c.in_ok-need.ensures;
      buffer = c.put_texts.ensures.bytes ∙ kept_whole _ _ _ _ c.args.out.now r;
      within = c.if-out-need.false;
    }
