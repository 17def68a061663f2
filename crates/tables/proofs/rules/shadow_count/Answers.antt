use Rattle.std.proofs.Common.{◌∙◌, ◌<◌, ◌≤◌, sym, arith, length-take}
use lib.Seq.{get_or-take}
use Rattle.tables.specs.Rules.{no_rule}
use Rattle.tables.proofs.rules.ShadowLaws.{turn_hidden, turn_plain, turn_end}
use Rattle.tables.proofs.rules.shadow_count.Goals.{then-is_shadowed, else-is_shadowed}
use Rattle.tables.proofs.rules.shadow_count.Goals as goal

pub loop-at-init : goal.loop-at-init
loop-at-init c = record { most = omega arith; counted = omega arith }

pub overflow_add-shadowed : goal.overflow_add-shadowed
overflow_add-shadowed c =
    let m = c.loop-at.invariant.most in omega (arith, c.told-rules, c.places.ensures, length-take c.places.result c.args.rules.now)

pub loop-at-preserved : goal.loop-at-preserved
loop-at-preserved c =
    let rules = c.args.rules.now in
    let n = c.places.result in
    let i = c.loop-at.invariant in
    let t : c.loop-at.at < n = omega (arith, c.told-rules, c.places.ensures, length-take n rules, c.loop-at-test.true) in
    let h = rw (get_or-take n rules c.loop-at.at no_rule t) at c.is_shadowed.ensures in
    elim c.if-is_shadowed.branch [
      | then-is_shadowed w ↦
          record {
            most = omega (arith, w.shadowed-is, i.most);
            counted = rw w.shadowed-is (turn_hidden rules c.args.count c.loop-at.at c.loop-at.shadowed c.told-rules c.places.ensures i.counted t (sym h ∙ w.if-is_shadowed.true));
          }
      | else-is_shadowed w ↦
          record {
            most = omega (arith, w.shadowed-is, i.most);
            counted = rw w.shadowed-is (turn_plain rules c.args.count c.loop-at.at c.loop-at.shadowed c.told-rules c.places.ensures i.counted t (sym h ∙ w.if-is_shadowed.false));
          }
    ]

pub returns : goal.returns
returns c =
    let rules = c.args.rules.now in
    let n = c.places.result in
    let t : n ≤ c.loop-at.at = omega (arith, c.told-rules, c.places.ensures, length-take n rules, c.loop-at-test.false) in
    turn_end rules c.args.count c.loop-at.at c.loop-at.shadowed c.told-rules c.places.ensures c.loop-at.invariant.counted t
