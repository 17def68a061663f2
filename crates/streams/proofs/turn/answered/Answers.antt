use mathlib.Core.Path.{refl}
use Rattle.streams.proofs.turn.TurnLaws.{came_fits}
use Rattle.streams.proofs.turn.answered.Goals as goal

pub returns-in-Ok : goal.returns-in-Ok
returns-in-Ok c = rw c.came_to.ensures (came_fits _ _ _ _ refl)

pub returns-in-Err : goal.returns-in-Err
returns-in-Err c = rw c.came_to-in-Err.ensures (came_fits _ _ _ _ refl)
