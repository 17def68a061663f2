-- Identities in tables: that of a topic keeps 32 bytes, and identities with equal fields are equal, so that an identity that no place answers to is not held there. Assumes nothing.
use mathlib.Core.Bool.{true, false, ◌&&◌, false≢true}
use mathlib.Core.List.{List}
use mathlib.Core.Path.{◌≡◌, sym, ◌∙◌}
use Prim.Native.Nat.{ℕ, ◌-◌}
use native.Mathlib.Omega.{arith}
use borrow.Author.Tests.{eqb-true}
use lib.Dec.{eqb}
use lib.ListN.{length, take, replicate, length-append, length-take, length-replicate}
use Rattle.laws.proofs.Tests.{both, fails}
use Rattle.slices.specs.Bytes.{same}
use Rattle.slices.proofs.bytes.SameLaws.{same-true}
use Rattle.tables.specs.Identity.{prefix_of, id_of, is_of}
use Rattle.tables.specs.declared.identity.Id.{Id}
use Rattle.tables.proofs.identity.IdentityLaws.{is_of_refl}
use Rattle.monitor.specs.Sound.{same_id}

-- the identity of a topic keeps 32 bytes
pub prefix_long : (t : List ℕ) → length (id_of t).prefix ≡ 32
unfolding id_of prefix_of
prefix_long t =
    omega (arith, length-append (take 32 t) (replicate (32 - length t) 0), length-take 32 t, length-replicate {A = ℕ} (32 - length t) 0)

-- an identity by its fields
abbrev fields : Id → Id
fields i = record { hash = i.hash; hash2 = i.hash2; prefix = i.prefix; prefix_len = i.prefix_len; len = i.len; suffix_hash = i.suffix_hash }

-- equal fields
same_id_lem : (a b : Id) → same_id a b ≡ true → a ≡ b
unfolding same_id
same_id_lem a b e =
    let h = eqb a.hash b.hash in
    let h2 = eqb a.hash2 b.hash2 in
    let n = eqb a.len b.len in
    let s = eqb a.suffix_hash b.suffix_hash in
    let k = eqb a.prefix_len b.prefix_len in
    let f = both (h && h2 && n && s && k) (same a.prefix b.prefix) e in
    let g = both (h && h2 && n && s) k f.0 in
    let i = both (h && h2 && n) s g.0 in
    let j = both (h && h2) n i.0 in
    let l = both h h2 j.0 in
    let e1 : a.hash ≡ b.hash = eqb-true _ _ l.0 in
    let e2 : a.hash2 ≡ b.hash2 = eqb-true _ _ l.1 in
    let e3 : a.len ≡ b.len = eqb-true _ _ j.1 in
    let e4 : a.suffix_hash ≡ b.suffix_hash = eqb-true _ _ i.1 in
    let e5 : a.prefix_len ≡ b.prefix_len = eqb-true _ _ g.1 in
    let e6 : a.prefix ≡ b.prefix = same-true _ _ f.1 in
    let all : fields a ≡ fields b = rw (e1, e2, e3, e4, e5, e6) in
    all

-- an identity that does not answer to another has not its fields, in either order
module _ (x held : Id) (away : is_of x held ≡ false) where
  pub new_first : same_id x held ≡ false
  new_first = fails (same_id x held) (λ e. false≢true (sym away ∙ (rw (← same_id_lem x held e) (is_of_refl x))))

  pub new_last : same_id held x ≡ false
  new_last = fails (same_id held x) (λ e. false≢true (sym away ∙ (rw (same_id_lem held x e) (is_of_refl x))))
