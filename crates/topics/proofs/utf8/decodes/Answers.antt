use Rattle.std.proofs.Common.{sym, ◌∙◌}
use Rattle.std.proofs.lemmas.List.Sums.{fold_more}
use Rattle.topics.specs.Utf8.{between, taken}
use Rattle.topics.proofs.utf8.DecodeLaws.{taken_narrow}
use Rattle.topics.proofs.utf8.decodes.Goals as goal

pub loop-b-preserved : goal.loop-b-preserved
loop-b-preserved c =
    let l = c.loop-b.invariant in
    (rw c.take-d.ensures (taken_narrow _ _ l.0), c.take-d.ensures ∙ rw l.1 (sym (fold_more taken between c.args.s.now c.loop-b.b-index 0 c.loop-b-test.true)))
