-- A packet's body by its type: what must be so of it, and the pieces that become messages.
-- Assumes nothing.
use Rattle.std.specs.Prelude.{Bool, true, false, cond, not, ◌&&◌, ◌||◌, List, [], ◌∷◌, ℕ, ◌+◌, eqb, length}
use Rattle.laws.specs.Lists.{every, some}
use Rattle.packets.specs.Connect.{connect_built, connect_piece}
use Rattle.packets.specs.Filters.{list_built, filter_at, filters_of}
use Rattle.packets.specs.Piece.{plain_piece, good_piece, is_long, ToldPiece}
use Rattle.packets.specs.Publish.{publish_built, publish_piece}
use Rattle.packets.specs.declared.bodies.Looked.{Looked}

-- SUBSCRIBE and UNSUBSCRIBE
abbrev pub is_list : ℕ → Bool
is_list kind = eqb kind 8 || eqb kind 10

-- 2.2.1: types 0 and 15 are reserved; nothing more is asked of the types that are not of the four
unfoldable pub body_built : ℕ → ℕ → List ℕ → Bool
body_built kind flags b =
    cond (eqb kind 1) (connect_built flags b)
    (cond (eqb kind 3) (publish_built flags b)
    (cond (is_list kind) (list_built flags b)
    (not (eqb kind 0) && not (eqb kind 15))))

-- the piece at a step: of a list the filter at that place of the body, of any other packet its one piece
unfoldable pub piece_at : ℕ → ℕ → List ℕ → ℕ → ToldPiece
piece_at kind flags b step =
    cond (eqb kind 1) (connect_piece b)
    (cond (eqb kind 3) (publish_piece flags b)
    (cond (is_list kind) (filter_at (eqb kind 8) b step)
    (plain_piece b)))

-- the step of the first piece: a list's filters begin behind the packet identifier
abbrev pub first_step : ℕ → ℕ
first_step kind = cond (is_list kind) 2 0

-- the pieces in their order
unfoldable pub pieces_of : ℕ → ℕ → List ℕ → List ToldPiece
pieces_of kind flags b = cond (is_list kind) (filters_of (eqb kind 8) b) (piece_at kind flags b 0 ∷ [])

-- what a look at pieces gives: whether all are good, whether one is long, how many there are
abbrev pub looked_at : List ℕ → List ToldPiece → Looked
looked_at b ps = record { sound = every (good_piece b) ps; long = some is_long ps; count = length ps }

-- before the first of them, and with one more
abbrev pub looked_first : Looked
looked_first = record { sound = true; long = false; count = 0 }

unfoldable pub looked_on : List ℕ → Looked → ToldPiece → Looked
looked_on b seen p = record { sound = seen.sound && good_piece b p; long = seen.long || is_long p; count = seen.count + 1 }
