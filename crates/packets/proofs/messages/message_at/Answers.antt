-- `packets::messages::message_at` meets its contract. Assumes nothing.
use Rattle.packets.proofs.messages.MessageLaws.{message_none}
use Rattle.packets.proofs.messages.message_at.Goals as goal

pub returns-then-bytes-place : goal.returns-then-bytes-place
returns-then-bytes-place c = message_none _ _ _ _ c.if-bytes-place.true
