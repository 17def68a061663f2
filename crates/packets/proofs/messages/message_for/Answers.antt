-- `packets::messages::message_for` meets its contract. Assumes nothing.
use mathlib.Core.Path.{refl, ◌∙◌}
use native.Mathlib.Omega.{arith}
use Rattle.std.specs.Prelude.{Some}
use Rattle.packets.specs.Piece.{piece_told}
use Rattle.packets.proofs.messages.MessageLaws.{no_piece, from_piece, piece_long, piece_fine}
use Rattle.packets.proofs.messages.message_for.Goals as goal

pub returns-then-p-gt-TOPIC_MAX : goal.returns-then-p-gt-TOPIC_MAX
returns-then-p-gt-TOPIC_MAX c =
    no_piece _ _ _ _ _ c.in_ok-h.ensures.value refl c.in_ok-h.ensures.typed c.in-Some.ensures.value
    (piece_long (piece_told (Some c.in-Some.p)) refl c.if-p-gt-TOPIC_MAX.true) (λ z. absurd (omega arith))

pub returns : goal.returns
returns c =
    c.sent_from.ensures ∙ from_piece _ _ _ _ _ c.in_ok-h.ensures.value refl c.in_ok-h.ensures.typed c.in-Some.ensures.value (piece_fine (piece_told (Some c.in-Some.p)) refl c.if-p-gt-TOPIC_MAX.false)
