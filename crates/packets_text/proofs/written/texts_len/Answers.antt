use Prim.Native.Nat.{◌-◌}
use mathlib.Core.Bool.{true}
use mathlib.Core.Path.{refl, ap}
use native.Mathlib.Omega.{arith}
use lib.ListN.{length}
use Rattle.packets.proofs.RefusalLaws.{refusal_some}
use Rattle.packets.proofs.messages.LeftLaws.{within_for, good_for, taken_for, first_good_for, first_few}
use Rattle.packets_text.proofs.written.WrittenLaws.{turn_length, none_text, first_texts}
use Rattle.packets_text.proofs.written.texts_len.Goals as goal

pub loop-init : goal.loop-init
loop-init c =
    let a = c.args in
    record {
      all = omega (arith, ap length (first_texts a.bytes.now a.place a.now_us a.ok c.requires refl));
      good = first_good_for a.bytes.now a.place a.now_us a.ok c.requires refl;
      short = omega arith;
      few = first_few a.bytes.now a.place 0 true c.requires refl;
    }

pub returns-in_err-m : goal.returns-in_err-m
returns-in_err-m c = absurd (refusal_some c.in_err-m.field-0.0 (taken_for _ _ _ _ _ c.loop-test.true c.in_err-m.ensures c.loop.invariant.good))

pub text_len-n-requires : goal.text_len-n-requires
text_len-n-requires c = within_for _ _ _ _ _ c.loop-test.true c.in_ok-m.ensures c.loop.invariant.good

pub overflow_add-n : goal.overflow_add-n
overflow_add-n c = omega (arith, c.loop.invariant.short, c.loop.invariant.few, c.text_len-n.ensures.short, c.loop-test.true)

pub loop-preserved : goal.loop-preserved
loop-preserved c =
    let a = c.args in
    let m = c.in_ok-m.ensures in
    let l = turn_length a.bytes.now a.place a.now_us a.ok c.loop.step c.loop-test.true m in
    record {
      all = omega (arith, c.loop.invariant.all, l, c.text_len-n.ensures.value);
      good = good_for a.bytes.now a.place a.now_us a.ok c.loop.step c.loop-test.true m c.loop.invariant.good;
      short = omega (arith, c.loop.invariant.short, c.text_len-n.ensures.short);
      few = c.loop.invariant.few;
    }

pub returns : goal.returns
returns c =
    let a = c.args in
    let none = none_text a.bytes.now a.place a.now_us a.ok {k = a.packet.messages - c.loop.counter} c.loop.step (omega (arith, c.loop-test.false)) in
    omega (arith, c.loop.invariant.all, ap length none)
