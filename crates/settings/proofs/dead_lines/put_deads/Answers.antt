use mathlib.Core.Path.{◌≡◌}
use native.Mathlib.Omega.{arith}
use borrow.Author.Rules.{rules}
use lib.ListN.{length}
use lib.Seq.{take_all}
use Rattle.lines.proofs.put.WroteLaws.{wrote_none, wrote_then}
use Rattle.settings.specs.Dead.{deads_told}
use Rattle.settings.proofs.dead_lines.DeadLaws.{deads_more, deads_longer}
use Rattle.settings.proofs.dead_lines.put_deads.Goals as goal

pub loop-i-init : goal.loop-i-init
unfolding deads_told
loop-i-init c = record { text = wrote_none _ _; short = omega arith }

pub put_dead-p-requires : goal.put_dead-p-requires
put_dead-p-requires c =
    let n : length c.args.covers.now ≡ 32 = search rules in
    record { rule_in = (omega arith, omega arith); cover_bound = rw c.from.ensures (c.requires c.loop-i.i (omega arith)) }

pub loop-i-preserved : goal.loop-i-preserved
loop-i-preserved c =
    let rules = c.args.rules.now in
    let covers = c.args.covers.now in
    let n : length covers ≡ 32 = search rules in
    let told = rw c.from.ensures at c.put_dead-p.ensures.text in
    let short = rw c.from.ensures at c.put_dead-p.ensures.short in
    record {
      text = rw (deads_more rules covers c.loop-i.i (omega arith)) (wrote_then c.loop-i.invariant.text told);
      short = deads_longer rules covers c.loop-i.i (omega arith) c.loop-i.invariant.short short;
    }

pub returns : goal.returns
returns c =
    let covers = c.args.covers.now in
    let n : length covers ≡ 32 = search rules in
    let e : c.loop-i.i ≡ 32 = omega arith in
    record { text = rw (e, take_all 32 covers (omega arith)) at c.loop-i.invariant.text; short = rw (e, take_all 32 covers (omega arith)) at c.loop-i.invariant.short }
