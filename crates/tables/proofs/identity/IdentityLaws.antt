-- The identity test on identities of topics shorter than 65,536 bytes, as every inspected one is, is equality; those that answer to one identity, whatever it is, are
-- equal; and up to 32 bytes the test tells topics apart exactly (document 01, "Hashes"). Above 65,535 bytes it does neither: the length is kept modulo 65,536.
-- Assumes nothing.
use mathlib.Core.Bool.{true, ◌&&◌}
use mathlib.Core.List.{List}
use mathlib.Core.Path.{◌≡◌, refl, sym, ◌∙◌}
use Prim.Native.Nat.{ℕ, ◌-◌, ◌%◌, ◌<◌, ◌≤◌, min}
use native.Mathlib.Omega.{arith}
use borrow.Author.Tests.{eq-eqb, eqb-true}
use lib.Dec.{eqb}
use lib.ListN.{length, take, replicate, length-take}
use lib.Seq.{take_at, take_all}
use Rattle.laws.proofs.Tests.{both, alike}
use Rattle.slices.specs.Bytes.{same}
use Rattle.slices.proofs.bytes.SameLaws.{same-true, same_refl}
use Rattle.topics.specs.Hashes.{fnv1a, djb2, suffix_hash}
use Rattle.tables.specs.Identity.{prefix_of, id_of, is_of, compared}
use Rattle.tables.specs.declared.identity.Id.{Id}

-- every identity is its own
pub is_of_refl : (x : Id) → is_of x x ≡ true
unfolding is_of
is_of_refl x =
    rw (eq-eqb x.hash x.hash refl, eq-eqb x.hash2 x.hash2 refl, eq-eqb x.len x.len refl, eq-eqb x.suffix_hash x.suffix_hash refl)
    (same_refl (take (compared x x) x.prefix))

-- the bytes that are compared, where there are as many as the topic has or 32: the topic's own
front : (t : List ℕ) (n : ℕ) → n ≡ min (length t) 32 → take n (prefix_of t) ≡ take 32 t
unfolding prefix_of
front t n e = take_at (take 32 t) (replicate (32 - length t) 0) n (length-take 32 t ∙ omega arith)

-- what the test says of an identity and a topic
record Answers (x : Id) (u : List ℕ) : Type 0 where
  hash : fnv1a u ≡ x.hash
  hash2 : djb2 u ≡ x.hash2
  long : length u ≡ x.len
  rest : suffix_hash u ≡ x.suffix_hash
  first : take 32 u ≡ take (min x.len 32) x.prefix

told : (x : Id) (u : List ℕ) → length u < 65536 → is_of x (id_of u) ≡ true → Answers x u
unfolding is_of id_of
told x u lu e =
    let k = min x.len (min (length u) 32) in
    let h = eqb (fnv1a u) x.hash in
    let h2 = eqb (djb2 u) x.hash2 in
    let l = eqb (length u % 65536) x.len in
    let r = eqb (suffix_hash u) x.suffix_hash in
    let a = both (h && h2 && l && r) (same (take k (prefix_of u)) (take k x.prefix)) e in
    let b = both (h && h2 && l) r a.0 in
    let c = both (h && h2) l b.0 in
    let d = both h h2 c.0 in
    let n : length u ≡ x.len = omega (arith, eqb-true (length u % 65536) x.len c.1) in
    let m : k ≡ min x.len 32 = omega arith in
    record {
      hash = eqb-true _ _ d.0;
      hash2 = eqb-true _ _ d.1;
      long = n;
      rest = eqb-true _ _ b.1;
      first = rw (← m) (sym (front u k (omega arith)) ∙ same-true _ _ a.1);
    }

-- two topics that answer to one identity
one : {x : Id} {t u : List ℕ} → Answers x t → Answers x u → id_of t ≡ id_of u
unfolding id_of prefix_of
one a b =
    rw (a.hash ∙ sym b.hash, a.hash2 ∙ sym b.hash2, a.first ∙ sym b.first, a.long ∙ sym b.long, a.rest ∙ sym b.rest)

module _ (t u : List ℕ) (lt : length t < 65536) (lu : length u < 65536) where
  -- an identity that the test takes is equal
  is_of_made : is_of (id_of t) (id_of u) ≡ true → id_of t ≡ id_of u
  is_of_made e = one (told (id_of t) t lt (is_of_refl (id_of t))) (told (id_of t) u lu e)

  -- up to 32 bytes the topics themselves are
  pub is_of_exact : length t ≤ 32 → is_of (id_of t) (id_of u) ≡ true → t ≡ u
  is_of_exact h e =
      let a = told (id_of t) t lt (is_of_refl (id_of t)) in
      let b = told (id_of t) u lu e in
      let n : length t ≡ length u = a.long ∙ sym b.long in
      sym (take_all 32 t h) ∙ a.first ∙ sym b.first ∙ take_all 32 u (omega arith)

-- an identity as it is made of a topic
pub data OfTopic : Id → Type 0 where
  of_topic : (t : List ℕ) → length t < 65536 → OfTopic (id_of t)

-- of two such, the test takes equal ones only
pub of_true : {y z : Id} → OfTopic y → OfTopic z → is_of y z ≡ true → y ≡ z
of_true (of_topic t lt) (of_topic u lu) e = is_of_made t u lt lu e

-- who answers to whom an identity answers, answers to it, and no one else
pub of_like : (x : Id) {y z : Id} → OfTopic y → OfTopic z → is_of x y ≡ true → is_of x z ≡ is_of y z
of_like x (of_topic t lt) (of_topic u lu) e =
    alike (is_of x (id_of u)) (is_of (id_of t) (id_of u))
    (λ p. rw (← one (told x t lt e) (told x u lu p)) (is_of_refl (id_of t)))
    (λ p. rw (← is_of_made t u lt lu p) e)
