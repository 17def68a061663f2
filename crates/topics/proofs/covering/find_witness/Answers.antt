-- `covering::find_witness` meets its contract: what the first letter finds, and else what the second does. Assumes nothing.
use Rattle.std.proofs.Common.{◌∙◌}
use Rattle.topics.specs.Covering.{witness}
use Rattle.topics.proofs.covering.WitnessLaws.{witness_first, witness_second}
use Rattle.topics.proofs.covering.find_witness.Goals as goal

pub returns-then-first-ne0 : goal.returns-then-first-ne0
unfolding witness
returns-then-first-ne0 c = let t = c.tried_with-first.ensures in t ∙ witness_first _ _ (rw t at c.if-first-ne0.true)

pub returns : goal.returns
unfolding witness
returns c =
    c.tried_with.ensures ∙ witness_second _ _ (rw c.tried_with-first.ensures at c.if-first-ne0.false)
