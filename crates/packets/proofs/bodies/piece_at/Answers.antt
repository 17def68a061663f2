-- `packets::bodies::piece_at` meets its contract. Assumes nothing.
use Rattle.packets.proofs.bodies.PieceLaws.{connect_in, publish_in}
use Rattle.packets.proofs.bodies.piece_at.Goals as goal

pub returns-in-Connect-clause-within : goal.returns-in-Connect-clause-within
returns-in-Connect-clause-within c = rw c.connect_piece.ensures (connect_in _)

pub returns-in-Publish-clause-within : goal.returns-in-Publish-clause-within
returns-in-Publish-clause-within c = rw c.publish_piece.ensures (publish_in _ _)
