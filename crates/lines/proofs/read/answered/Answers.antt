-- `lines::read::answered` meets its contract, by the two cases of a number. Assumes nothing.
use Rattle.lines.specs.Field.{answered}
use Rattle.lines.proofs.read.answered.Goals as goal

pub returns-in-Value : goal.returns-in-Value
unfolding answered
returns-in-Value c = rw c.in-Value.is c.read_as.ensures

pub returns-in-Bad : goal.returns-in-Bad
unfolding answered
returns-in-Bad c = rw c.in-Bad.is c.refused.ensures
