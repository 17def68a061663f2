use Rattle.tables.proofs.standing.StandingLaws.{LiveFrom}
use Rattle.tables.proofs.standing.oldest_live.Given as goal

abbrev pub invariant-loop-at : goal.invariant-loop-at
invariant-loop-at l = LiveFrom l.buckets l.oldest l.time l.at
