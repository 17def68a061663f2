use Rattle.tables.proofs.covers.CoverLaws.{Left}
use Rattle.tables.proofs.covers.cover_report.Given as goal

abbrev pub invariant-loop-at : goal.invariant-loop-at
invariant-loop-at l = Left l.matching l.rules l.count l.at l.numbers
