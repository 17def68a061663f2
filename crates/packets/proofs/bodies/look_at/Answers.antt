-- `packets::bodies::look_at` meets its contract. Assumes nothing.
use Rattle.packets.specs.Bodies.{pieces_of}
use Rattle.packets.proofs.bodies.LookLaws.{look_one}
use Rattle.packets.proofs.bodies.look_at.Goals as goal

pub returns : goal.returns
unfolding pieces_of
returns c =
    rw (← c.is_list.ensures, c.if-is_list.false, ← c.piece_at.ensures.value) (look_one _ _ (rw c.look_first.ensures at c.look_on.ensures))
