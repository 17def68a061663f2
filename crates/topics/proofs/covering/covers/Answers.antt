use Rattle.topics.specs.Covering.{covers}
use Rattle.topics.proofs.covering.WitnessLaws.{witness_none}
use Rattle.topics.proofs.covering.covers.Goals as goal

pub returns : goal.returns
unfolding covers
returns c = rw c.find_witness.ensures (witness_none _)
