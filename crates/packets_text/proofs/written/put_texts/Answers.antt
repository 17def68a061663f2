use Prim.Native.Nat.{◌-◌}
use mathlib.Core.Path.{refl, ◌∙◌}
use native.Mathlib.Omega.{arith}
use Rattle.lines.proofs.put.WroteLaws.{wrote_none, wrote_then, wrote_length}
use Rattle.packets.proofs.RefusalLaws.{refusal_some}
use Rattle.packets.proofs.messages.LeftLaws.{within_for, good_for, taken_for, first_good_for}
use Rattle.packets_text.proofs.written.WrittenLaws.{turn_text, none_text, first_texts}
use Rattle.packets_text.proofs.written.put_texts.Goals as goal

pub loop-init : goal.loop-init
loop-init c =
    let a = c.args in
    record {
      all = λ f r w. rw (first_texts a.bytes.now a.place a.now_us a.ok c.requires refl) at w;
      good = first_good_for a.bytes.now a.place a.now_us a.ok c.requires refl;
      long = refl;
    }

pub returns-in_err-m : goal.returns-in_err-m
returns-in_err-m c = absurd (refusal_some c.in_err-m.field-0.0 (taken_for _ _ _ _ _ c.loop-test.true c.in_err-m.ensures c.loop.invariant.good))

pub put_text-at-requires : goal.put_text-at-requires
put_text-at-requires c = within_for _ _ _ _ _ c.loop-test.true c.in_ok-m.ensures c.loop.invariant.good

pub loop-preserved : goal.loop-preserved
loop-preserved c =
    let m = c.in_ok-m.ensures in
    record {
      all = λ f r w. c.loop.invariant.all f r (rw (turn_text _ _ _ _ _ c.loop-test.true m) (wrote_then c.put_text-at.ensures w));
      good = good_for _ _ _ _ _ c.loop-test.true m c.loop.invariant.good;
      long = wrote_length c.put_text-at.ensures ∙ c.loop.invariant.long;
    }

pub returns-clause-bytes : goal.returns-clause-bytes
returns-clause-bytes c =
    let a = c.args in
    let turn = c.loop in
    let none = none_text a.bytes.now a.place a.now_us a.ok {k = a.packet.messages - turn.counter} turn.step (omega (arith, c.loop-test.false)) in
    (turn.invariant.all turn.out turn.at (rw none (wrote_none turn.out turn.at))).bytes
