-- A packet's type by its number. The two reserved ones, 0 and 15, have one type, and no definition tells them apart. Assumes nothing.
use mathlib.Core.Bool.{true}
use mathlib.Core.List.{List}
use mathlib.Core.Path.{◌≡◌, refl}
use Prim.Native.Nat.{ℕ, ◌<◌}
use native.Mathlib.Omega.{arith}
use lib.Dec.{eqb}
use borrow.Author.Tests.{eqb-true, eqb-false}
use Rattle.laws.proofs.Cases.{by}
use Rattle.monitor.specs.Message.{type_number, type_at}
use Rattle.packets.specs.Bodies.{body_built, piece_at, pieces_of, first_step}
use Rattle.packets.specs.Packet.{body_refusal}

module _ {A : Type 0} (f : ℕ → A) (reserved : f 15 ≡ f 0) where
  abbrev Same : ℕ → Type 0
  Same k = f (type_number (type_at k)) ≡ f k

  at : (k c : ℕ) → Same c → eqb k c ≡ true → Same k
  at k c s e = let p : k ≡ c = eqb-true _ _ e in rw p s

  pub same_kind : (k : ℕ) → k < 16 → Same k
  same_kind k h =
      by (eqb k 0) (at k 0 reserved) (λ n0.
      by (eqb k 1) (at k 1 refl) (λ n1.
      by (eqb k 2) (at k 2 refl) (λ n2.
      by (eqb k 3) (at k 3 refl) (λ n3.
      by (eqb k 4) (at k 4 refl) (λ n4.
      by (eqb k 5) (at k 5 refl) (λ n5.
      by (eqb k 6) (at k 6 refl) (λ n6.
      by (eqb k 7) (at k 7 refl) (λ n7.
      by (eqb k 8) (at k 8 refl) (λ n8.
      by (eqb k 9) (at k 9 refl) (λ n9.
      by (eqb k 10) (at k 10 refl) (λ n10.
      by (eqb k 11) (at k 11 refl) (λ n11.
      by (eqb k 12) (at k 12 refl) (λ n12.
      by (eqb k 13) (at k 13 refl) (λ n13.
      by (eqb k 14) (at k 14 refl) (λ n14.
      let p : k ≡ 15 = omega (
        arith,
        eqb-false _ _ n0,
        eqb-false _ _ n1,
        eqb-false _ _ n2,
        eqb-false _ _ n3,
        eqb-false _ _ n4,
        eqb-false _ _ n5,
        eqb-false _ _ n6,
        eqb-false _ _ n7,
        eqb-false _ _ n8,
        eqb-false _ _ n9,
        eqb-false _ _ n10,
        eqb-false _ _ n11,
        eqb-false _ _ n12,
        eqb-false _ _ n13,
        eqb-false _ _ n14,
      ) in
      rw p refl)))))))))))))))

module _ (k flags : ℕ) (b : List ℕ) (h : k < 16) where
  pub same_refusal : body_refusal (type_number (type_at k)) flags b ≡ body_refusal k flags b
  unfolding body_refusal body_built pieces_of piece_at
  same_refusal = same_kind (λ (i : ℕ). body_refusal i flags b) refl k h

  pub same_pieces : pieces_of (type_number (type_at k)) flags b ≡ pieces_of k flags b
  unfolding pieces_of piece_at
  same_pieces = same_kind (λ (i : ℕ). pieces_of i flags b) refl k h

  pub same_piece : (step : ℕ) → piece_at (type_number (type_at k)) flags b step ≡ piece_at k flags b step
  unfolding piece_at
  same_piece step = same_kind (λ (i : ℕ). piece_at i flags b step) refl k h

pub same_first : (k : ℕ) → k < 16 → first_step (type_number (type_at k)) ≡ first_step k
same_first = same_kind first_step refl

pub same_type : (k : ℕ) → k < 16 → type_at (type_number (type_at k)) ≡ type_at k
same_type = same_kind type_at refl
