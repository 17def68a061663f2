-- Every piece lies in its body. Assumes nothing.
use mathlib.Core.List.{List}
use Prim.Native.Nat.{ℕ}
use native.Mathlib.Omega.{arith}
use lib.Dec.{eqb}
use Rattle.laws.proofs.Cases.{choose}
use Rattle.packets.specs.Bodies.{is_list, piece_at}
use Rattle.packets.specs.Connect.{client_field, connect_piece}
use Rattle.packets.specs.Fields.{begin}
use Rattle.packets.specs.Piece.{PieceIn, plain_piece}
use Rattle.packets.specs.Publish.{has_id, topic_field, id_field, publish_piece}
use Rattle.packets.proofs.fields.FieldLaws.{data_inside, number_if_ended}
use Rattle.packets.proofs.filters.WalkLaws.{none_in, filter_in}

module _ (b : List ℕ) where
  plain_in : PieceIn b (plain_piece b)
  plain_in = record { ordered = omega arith; inside = omega arith; payload = omega arith; after = omega arith }

  pub connect_in : PieceIn b (connect_piece b)
  unfolding connect_piece
  connect_in =
      let i = data_inside b (begin 10) in
      choose (PieceIn b) (client_field b).fine (λ _. record { ordered = i.ordered; inside = i.ended; payload = omega arith; after = omega arith }) (λ _. none_in b)

  pub publish_in : (flags : ℕ) → PieceIn b (publish_piece flags b)
  unfolding publish_piece
  publish_in flags =
      let i = data_inside b (begin 0) in
      choose (PieceIn b) (id_field flags b).fine
      (λ _. record { ordered = i.ordered; inside = i.ended; payload = number_if_ended (has_id flags) b (topic_field b) i.ended; after = omega arith })
      (λ _. none_in b)

pub piece_in : (kind flags : ℕ) (b : List ℕ) (step : ℕ) → PieceIn b (piece_at kind flags b step)
unfolding piece_at
piece_in kind flags b step =
    choose (PieceIn b) (eqb kind 1) (λ _. connect_in b)
    (λ _. choose (PieceIn b) (eqb kind 3) (λ _. publish_in b flags)
    (λ _. choose (PieceIn b) (is_list kind) (λ _. (filter_in (eqb kind 8) b step).lies)
    (λ _. plain_in b)))
