-- Laws of the length field: how large it is, and where its bytes lie. Assumes nothing.
use mathlib.Core.Bool.{true, false}
use mathlib.Core.List.{List}
use mathlib.Core.Path.{◌≡◌, refl, sym, ◌∙◌}
use Prim.Native.Nat.{ℕ, ◌+◌, ◌≤◌, ◌<◌}
use native.Mathlib.Omega.{arith}
use lib.Dec.{eqb, ltb}
use lib.ListN.{length, get_or-eq_default}
use borrow.Author.Tests.{eqb-true, lt-ltb, le-ltb}
use Rattle.laws.proofs.Cases.{by_le, choose, clash}
use Rattle.monitor.specs.Message.{type_number, type_at}
use Rattle.packets.specs.Header.{byte_at, seven_at, length_at, type_of, flags_of, body_from, size_of, header_refusal, header_of, LengthSmall, ToldHeader}

-- four bytes of seven bits each
pub length_small : (s : List ℕ) (at : ℕ) → LengthSmall (length_at s at)
unfolding length_at
length_small s at =
    let a : seven_at s at < 128 = omega arith in
    let b : seven_at s (at + 1) < 128 = omega arith in
    let c : seven_at s (at + 2) < 128 = omega arith in
    let d : seven_at s (at + 3) < 128 = omega arith in
    choose LengthSmall (ltb (byte_at s at) 128) (λ _. record { bytes = omega arith; value = omega arith })
    (λ _. choose LengthSmall (ltb (byte_at s (at + 1)) 128) (λ _. record { bytes = omega arith; value = omega arith })
    (λ _. choose LengthSmall (ltb (byte_at s (at + 2)) 128) (λ _. record { bytes = omega arith; value = omega arith })
    (λ _. choose LengthSmall (ltb (byte_at s (at + 3)) 128) (λ _. record { bytes = omega arith; value = omega arith })
    (λ _. record { bytes = omega arith; value = omega arith }))))

-- a byte that is not 0 is there
pub there : (s : List ℕ) (at : ℕ) → 128 ≤ byte_at s at → at < length s
there s at h = by_le (length s) at (λ l. let z = get_or-eq_default s 0 l in absurd (omega arith)) (λ l. l)

-- each way through the refusal
module _ (s : List ℕ) where
  pub over_is : (length_at s 1).over ≡ true → header_refusal s ≡ 32
  unfolding header_refusal
  over_is o = choose (λ (n : ℕ). n ≡ 32) (length_at s 1).over (λ _. refl) (λ u. clash o u)

  module _ (o : (length_at s 1).over ≡ false) where
    pub short_is : length s < size_of s → header_refusal s ≡ 31
    unfolding header_refusal
    short_is h = choose (λ (n : ℕ). n ≡ 31) (length_at s 1).over (λ u. clash u o) (λ _. rw (lt-ltb (length s) (size_of s) h))

    pub whole_is : size_of s ≤ length s → header_refusal s ≡ 0
    unfolding header_refusal
    whole_is h = choose (λ (n : ℕ). n ≡ 0) (length_at s 1).over (λ u. clash u o) (λ _. rw (le-ltb (length s) (size_of s) h))

-- what a header that was read says
pub record Read (s : List ℕ) (h : ToldHeader) : Type 0 where
  pub refusal : header_refusal s ≡ 0
  pub kind : h.kind ≡ type_number (type_at (type_of s))
  pub flags : h.flags ≡ flags_of s
  pub from : h.from ≡ body_from s
  pub to : h.to ≡ size_of s

module _ (s : List ℕ) {h : ToldHeader} (e : h ≡ header_of s) where
  -- its number is the refusal's
  pub number_is : h.number ≡ header_refusal s
  unfolding header_of
  number_is =
      rw e (choose (λ (g : ToldHeader). g.number ≡ header_refusal s) (eqb (header_refusal s) 0) (λ z. sym (eqb-true _ _ z)) (λ _. refl))

  pub header_read : h.number ≡ 0 → Read s h
  unfolding header_of
  header_read n =
      let r : header_refusal s ≡ 0 = sym number_is ∙ n in
      rw (e, r) (record { refusal = r; kind = refl; flags = refl; from = refl; to = refl })
