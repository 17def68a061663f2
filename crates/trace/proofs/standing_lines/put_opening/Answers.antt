-- `trace::standing_lines::put_opening` meets its contract, by cases on the opening. Assumes nothing.
use Prim.{tt}
use Rattle.tables.specs.declared.standing.Opening.TheVariants.{Never}
use Rattle.trace.proofs.standing_lines.TextBounds.{opening_short}
use Rattle.trace.proofs.standing_lines.put_opening.Goals as goal

pub returns-in-Never : goal.returns-in-Never
returns-in-Never c = rw c.in-Never.is (record { text = c.put_never.ensures; short = λ h. opening_short _ _ Never h tt })

pub returns-in-From : goal.returns-in-From
returns-in-From c = rw c.in-From.is (c.put_from.ensures)
