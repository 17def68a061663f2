use Rattle.std.proofs.Common.{arith}
use Rattle.topics.proofs.matching.MatchLaws.{end_end}
use Rattle.topics.proofs.matching.past_plus.Goals as goal

pub returns-in_default : goal.returns-in_default
returns-in_default c = end_end _ _ 0 (omega arith)
