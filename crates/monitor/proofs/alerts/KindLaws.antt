-- A test on the kinds of what was found, kind by kind; so which of them deny, and where none carries the payload hash that hash need not be made. Assumes nothing.
use mathlib.Core.Bool.{Bool, true, false, cond, ◌&&◌, ◌||◌, or-false, or_assoc, and-false}
use mathlib.Core.List.{List, [], ◌∷◌, ◌++◌, foldl}
use mathlib.Core.Path.{◌≡◌, refl, sym, ◌∙◌}
use Prim.Native.Nat.{ℕ}
use native.Mathlib.Omega.{arith}
use borrow.Author.Tests.{ltb-false}
use lib.Dec.{eqb, ltb}
use lib.ListN.{replicate}
use Rattle.laws.specs.Lists.{some}
use Rattle.laws.proofs.Cases.{by}
use Rattle.laws.proofs.Tests.{neither}
use Rattle.monitor.specs.Alerts.{when, kinds_of, denies, hash_of, raise, raise_all}
use Rattle.monitor.specs.declared.alerts.Findings.{Findings}
use Rattle.monitor.specs.declared.alerts.Raised.{Raised}

module _ (p : ℕ → Bool) where
  some-append : (l k : List ℕ) → some p (l ++ k) ≡ some p l || some p k
  unfolding some
  some-append [] k = refl
  some-append (x ∷ l) k = rw (some-append l k) (sym (or_assoc (p x) (some p l) (some p k)))

  some-when : (b : Bool) (k : ℕ) → some p (when b k) ≡ b && p k
  unfolding some
  some-when true k = or-false (p k)
  some-when false k = refl

  -- a test on the kinds of what was found
  some_kinds : (f : Findings)
      → some p (kinds_of f) ≡ f.clock && p 8 || f.broad && p 11 || f.qos && p 4 || ltb 0 f.denial && p f.denial || f.anomaly && p 7
  unfolding kinds_of
  some_kinds f =
      rw (
        some-append,
        some-append,
        some-append,
        some-append,
        some-when f.clock 8,
        some-when f.broad 11,
        some-when f.qos 4,
        some-when (ltb 0 f.denial) f.denial,
        some-when f.anomaly 7,
      )

-- no other kind denies
pub kinds_deny : (f : Findings) → some denies (kinds_of f) ≡ denies f.denial
unfolding denies
kinds_deny f =
    some_kinds denies f
    ∙ simp (and-false, or-false)
    (by (ltb 0 f.denial) (λ e. rw e) (λ e. let z : f.denial ≡ 0 = omega (arith, ltb-false 0 f.denial e) in rw z))

-- a kind that carries the payload hash
abbrev carries : ℕ → Bool
carries k = eqb k 3 || eqb k 7

-- no kind carries the hash
none_carries : (f : Findings) → carries f.denial || f.anomaly ≡ false → some carries (kinds_of f) ≡ false
none_carries f e =
    let h = neither (carries f.denial) f.anomaly e in some_kinds carries f ∙ rw (h.0, h.1) (simp (and-false, or-false))

module _ (hash other : List ℕ) (t : ℕ) where
  -- one alert, and many, of kinds that do not
  raise-hash : (a : Raised) (k : ℕ) → carries k ≡ false → raise hash t a k ≡ raise other t a k
  unfolding raise hash_of
  raise-hash a k e = rw e

  fold_hash : (kinds : List ℕ) (a : Raised) → some carries kinds ≡ false → foldl (raise hash t) a kinds ≡ foldl (raise other t) a kinds
  unfolding some
  fold_hash [] a e = refl
  fold_hash (k ∷ ks) a e =
      let h = neither (carries k) (some carries ks) e in rw (raise-hash a k h.0) (fold_hash ks (raise other t a k) h.1)

-- the payload hash is made where it is wanted
pub raised_hash : (f : Findings) (hash : List ℕ) (t id total : ℕ)
    → raise_all (cond (carries f.denial || f.anomaly) hash (replicate 32 0)) t id total (kinds_of f) ≡ raise_all hash t id total (kinds_of f)
unfolding raise_all
raised_hash f hash t id total =
    by (carries f.denial || f.anomaly) (λ e. rw e) (λ e. rw e (fold_hash (replicate 32 0) hash t (kinds_of f) _ (none_carries f e)))
