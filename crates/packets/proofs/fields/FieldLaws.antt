-- Laws of fields: where there is room, that a field lies in its body, and that one that was read stands behind the one before it. Assumes nothing.
use mathlib.Core.Bool.{Bool, true, false}
use mathlib.Core.List.{List}
use mathlib.Core.Path.{◌≡◌, refl}
use Prim.Native.Nat.{ℕ, ◌+◌, ◌-◌, ◌≤◌}
use native.Mathlib.Omega.{arith}
use lib.Dec.{leb}
use lib.ListN.{length}
use borrow.Author.Tests.{leb-true, le-leb}
use Rattle.laws.proofs.Cases.{choose, clash, whichever}
use Rattle.laws.proofs.Tests.{both, alike}
use Rattle.lines.specs.Span.{part}
use Rattle.packets.specs.Fields.{Inside, is_string, broken_field, room_behind, byte_field, number_field, data_of, data_field, string_of, string_field, byte_if, number_if, data_if, string_if}
use Rattle.packets.specs.Fields.{ToldField}

-- a comparison that cannot overflow is the same
pub leb_less : (a n l : ℕ) → n ≤ l → leb a (l - n) ≡ leb (a + n) l
leb_less a n l h = alike (leb a (l - n)) (leb (a + n) l) (λ e. le-leb (a + n) l (omega (arith, leb-true a (l - n) e))) (λ e. le-leb a (l - n) (omega (arith, leb-true (a + n) l e)))

module _ (b : List ℕ) (f : ToldField) (n : ℕ) where
  -- where there is room, the field before was read and the bytes are there
  pub room_is : room_behind b f n ≡ true → (f.fine ≡ true) × (f.next + n ≤ length b)
  unfolding room_behind
  room_is e = let h = both f.fine (leb (f.next + n) (length b)) e in (h.0, leb-true _ _ h.1)

-- a broken field lies in every body
pub broken_inside : (b : List ℕ) → Inside b broken_field
broken_inside b = record { ordered = omega arith; ended = omega arith }

-- what a field that was read says of the one before it
abbrev Behind : ToldField → ℕ → ToldField → Type 0
Behind f n d = d.fine ≡ true → (f.fine ≡ true) × (f.next + n ≤ d.next)

module _ (b : List ℕ) (f : ToldField) where
  pub data_of_inside : Inside b (data_of b f)
  unfolding data_of
  data_of_inside =
      choose (Inside b) (room_behind b f f.value) (λ e. record { ordered = omega arith; ended = (room_is b f f.value e).1 }) (λ _. broken_inside b)

  data_of_behind : Behind f 0 (data_of b f)
  unfolding data_of
  data_of_behind = choose (Behind f 0) (room_behind b f f.value) (λ e _. ((room_is b f f.value e).0, omega arith)) (λ _ e. clash e refl)

  number_behind : Behind f 2 (number_field b f)
  unfolding number_field
  number_behind = choose (Behind f 2) (room_behind b f 2) (λ e _. ((room_is b f 2 e).0, omega arith)) (λ _ e. clash e refl)

  number_ended : (number_field b f).next ≤ length b
  unfolding number_field
  number_ended = choose (λ (d : ToldField). d.next ≤ length b) (room_behind b f 2) (λ e. omega (arith, (room_is b f 2 e).1)) (λ _. omega arith)

  byte_behind : Behind f 1 (byte_field b f)
  unfolding byte_field
  byte_behind = choose (Behind f 1) (room_behind b f 1) (λ e _. ((room_is b f 1 e).0, omega arith)) (λ _ e. clash e refl)

  byte_ended : (byte_field b f).next ≤ length b
  unfolding byte_field
  byte_ended = choose (λ (d : ToldField). d.next ≤ length b) (room_behind b f 1) (λ e. omega (arith, (room_is b f 1 e).1)) (λ _. omega arith)

module _ (b : List ℕ) (f : ToldField) where
  pub data_inside : Inside b (data_field b f)
  unfolding data_field
  data_inside = data_of_inside b (number_field b f)

  pub data_behind : Behind f 2 (data_field b f)
  unfolding data_field
  data_behind e =
      let d = data_of_behind b (number_field b f) e in
      let n = number_behind b f d.0 in
      (n.0, omega arith)

-- behind a broken field every field is broken
module _ (b : List ℕ) where
  pub byte_if_broken : (wanted : Bool) → byte_if wanted b broken_field ≡ broken_field
  unfolding byte_field room_behind
  byte_if_broken true = refl
  byte_if_broken false = refl

  pub number_if_broken : (wanted : Bool) → number_if wanted b broken_field ≡ broken_field
  unfolding number_field room_behind
  number_if_broken true = refl
  number_if_broken false = refl

  pub data_if_broken : (wanted : Bool) → data_if wanted b broken_field ≡ broken_field
  unfolding data_field data_of number_field room_behind
  data_if_broken true = refl
  data_if_broken false = refl

  pub string_if_broken : (wanted : Bool) → string_if wanted b broken_field ≡ broken_field
  unfolding string_field string_of data_field data_of number_field room_behind
  string_if_broken true = whichever (λ (d : ToldField). d ≡ broken_field) (is_string (part b 0 0)) refl refl
  string_if_broken false = refl

-- a field that is there only where it is wanted
pub byte_if_behind : (wanted : Bool) (b : List ℕ) (f : ToldField) → Behind f 0 (byte_if wanted b f)
byte_if_behind true b f e = let h = byte_behind b f e in (h.0, omega arith)
byte_if_behind false b f e = (e, omega arith)

pub byte_if_ended : (wanted : Bool) (b : List ℕ) (f : ToldField) → f.next ≤ length b → (byte_if wanted b f).next ≤ length b
byte_if_ended true b f h = byte_ended b f
byte_if_ended false b f h = h

pub number_if_ended : (wanted : Bool) (b : List ℕ) (f : ToldField) → f.next ≤ length b → (number_if wanted b f).next ≤ length b
number_if_ended true b f h = number_ended b f
number_if_ended false b f h = h
