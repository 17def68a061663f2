-- Laws of the look at pieces, one after the other. Assumes nothing.
use mathlib.Core.Bool.{Bool, true, false, ◌&&◌, ◌||◌, and_assoc, or_assoc, and-true, or-false}
use mathlib.Core.List.{List, [], ◌∷◌}
use mathlib.Core.Path.{◌≡◌, refl, sym, ◌∙◌}
use Prim.Native.Nat.{ℕ, ◌+◌, ◌≤◌, ◌<◌}
use native.Mathlib.Omega.{arith}
use lib.ListN.{length}
use Rattle.laws.specs.Lists.{every, some}
use Rattle.packets.specs.Bodies.{looked_first, looked_on, looked_at}
use Rattle.packets.specs.Filters.{filter_at, walk}
use Rattle.packets.specs.Piece.{good_piece, is_long, ToldPiece}
use Rattle.packets.specs.declared.bodies.Looked.{Looked}
use Rattle.packets.proofs.filters.WalkLaws.{filter_further, left_turn, left_last, left_end}

-- what was seen, and the pieces that are left
abbrev pub looked_over : List ℕ → Looked → List ToldPiece → Looked
looked_over b seen ps =
    record { sound = seen.sound && every (good_piece b) ps; long = seen.long || some is_long ps; count = seen.count + length ps }

-- a look from three parts
looked : {s t : Bool} {l m : Bool} {c d : ℕ} → s ≡ t → l ≡ m → c ≡ d
    → ◌≡◌ {A = Looked} (record { sound = s; long = l; count = c }) (record { sound = t; long = m; count = d })
looked e f g = cc

module _ (b : List ℕ) (seen : Looked) where
  pub look_turn : (p : ToldPiece) (ps : List ToldPiece) → looked_over b (looked_on b seen p) ps ≡ looked_over b seen (p ∷ ps)
  unfolding looked_on every some
  look_turn p ps = looked (and_assoc seen.sound (good_piece b p) (every (good_piece b) ps)) (or_assoc seen.long (is_long p) (some is_long ps)) (omega arith)

  pub look_end : seen ≡ looked_over b seen []
  unfolding every some
  look_end = looked (sym (and-true seen.sound)) (sym (or-false seen.long)) (omega arith)

-- one more was seen
pub look_count : (b : List ℕ) (seen : Looked) (p : ToldPiece) {on : Looked} → on ≡ looked_on b seen p → on.count ≡ seen.count + 1
unfolding looked_on
look_count b seen p g = rw g

-- from the first on
pub look_first : (b : List ℕ) (ps : List ToldPiece) → looked_over b looked_first ps ≡ looked_at b ps
look_first b ps = looked refl refl (omega arith)

-- the loop over filters
module _ (subscribe : Bool) (b : List ℕ) where
  abbrev further : (at : ℕ) → (filter_at subscribe b at).fine ≡ true → at < (filter_at subscribe b at).next
  further = filter_further subscribe b

  -- the filters that are left at a place
  abbrev pub filters_left : ℕ → List ToldPiece
  filters_left at = walk (filter_at subscribe b) (length b + 1) (length b) at

  module _ {at : ℕ} (l : at < length b) {p : ToldPiece} (e : p ≡ filter_at subscribe b at) (seen : Looked) {on : Looked} (g : on ≡ looked_on b seen p) where
    pub filters_turn : p.fine ≡ true → looked_over b on (filters_left p.next) ≡ looked_over b seen (filters_left at)
    filters_turn u =
        rw (g, left_turn (filter_at subscribe b) (length b) further at l (rw e at u), ← e) (look_turn b seen p (filters_left p.next))

    pub filters_last : p.fine ≡ false → looked_over b on [] ≡ looked_over b seen (filters_left at)
    filters_last u = rw (g, left_last (filter_at subscribe b) (length b) further at l (rw e at u), ← e) (look_turn b seen p [])

  pub filters_end : (seen : Looked) {at : ℕ} → length b ≤ at → seen ≡ looked_over b seen (filters_left at)
  filters_end seen {at} l = rw (left_end (filter_at subscribe b) (length b) further at l) (look_end b seen)

-- a body of one piece
pub look_one : (b : List ℕ) (p : ToldPiece) {on : Looked} → on ≡ looked_on b looked_first p → on ≡ looked_at b (p ∷ [])
look_one b p {on} g = look_end b on ∙ rw g (look_turn b looked_first p []) ∙ look_first b (p ∷ [])
