-- What is true of a message's alerts. First: raising what was found one after the other is raising the list of its kinds.
-- Then: there are at most four where a broad Subscribe feeds no tracker, so none is dropped; ids are never 0; the total counts each alert, capped. Assumes nothing.
use mathlib.Core.Bool.{Bool, true, false}
use mathlib.Core.List.{List, [], ◌∷◌, foldl, foldl-append}
use mathlib.Core.Path.{◌≡◌}
use Prim.Native.Nat.{ℕ, ◌+◌, ◌%◌, ◌^◌, ◌≤◌, ◌<◌, min}
use native.Mathlib.Omega.{arith}
use borrow.Author.Tests.{lt-ltb, eqb-false}
use lib.Dec.{eqb, ltb}
use lib.ListN.{length, length-append}
use Rattle.laws.proofs.Cases.{by}
use Rattle.laws.proofs.Folds.{fold_keeps}
use Rattle.monitor.specs.Alerts.{when, kinds_of, id_after, counted, none_raised, raise, raise_all}
use Rattle.monitor.specs.declared.alerts.Findings.{Findings}
use Rattle.monitor.specs.declared.alerts.Raised.{Raised}

-- at most one kind
when-length : (b : Bool) (k : ℕ) → length (when b k) ≤ 1
when-length true k = omega arith
when-length false k = omega arith

-- a broad Subscribe feeds no tracker, so two of the five are never found together
pub four : (f : Findings) → (f.broad ≡ true → f.anomaly ≡ false) → length (kinds_of f) ≤ 4
unfolding kinds_of
four f apart =
    let a = when-length f.clock 8 in
    let c = when-length f.qos 4 in
    let d = when-length (ltb 0 f.denial) f.denial in
    simp length-append
    (by f.broad
    (λ e. rw (e, apart e) (omega (arith, a, c, d)))
    (λ e. let g = when-length f.anomaly 7 in rw e (omega (arith, a, c, d, g))))

-- ids are never 0
id_after_0 : (id : ℕ) → id_after id ≡ 0 → ⊥
id_after_0 id e = by (eqb ((id + 1) % 2 ^ 64) 0) (λ t. let z : ◌≡◌ {A = ℕ} 1 0 = rw t at e in omega arith) (λ t. eqb-false _ _ t (rw t at e))

module _ (hash : List ℕ) (t : ℕ) where
  -- what was found, raised in its order
  module _ (f : Findings) {id total : ℕ} {none clock broad qos denial all : Raised} where
    pub raised_five : none ≡ none_raised id total
        → clock ≡ foldl (raise hash t) none (when f.clock 8)
        → broad ≡ foldl (raise hash t) clock (when f.broad 11)
        → qos ≡ foldl (raise hash t) broad (when f.qos 4)
        → denial ≡ foldl (raise hash t) qos (when (ltb 0 f.denial) f.denial)
        → all ≡ foldl (raise hash t) denial (when f.anomaly 7)
        → all ≡ raise_all hash t id total (kinds_of f)
    unfolding raise_all kinds_of
    raised_five en ec eb eq ed ea = rw (foldl-append, foldl-append, foldl-append, foldl-append, ← en, ← ec, ← eb, ← eq, ← ed) ea

  -- one alert more, where there is room
  raise-count : (a : Raised) (k : ℕ) → a.count < 4 → (raise hash t a k).count ≡ a.count + 1
  unfolding raise
  raise-count a k h = rw (lt-ltb a.count 4 h)

  raise-total : (a : Raised) (k : ℕ) → a.count < 4 → (raise hash t a k).total ≡ counted a.total
  unfolding raise
  raise-total a k h = rw (lt-ltb a.count 4 h)

  -- and many
  count_from : (kinds : List ℕ) (a : Raised) → a.count + length kinds ≤ 4 → (foldl (raise hash t) a kinds).count ≡ a.count + length kinds
  count_from [] a h = omega arith
  count_from (k ∷ ks) a h =
      let e = raise-count a k (omega arith) in
      let ih = count_from ks (raise hash t a k) (omega arith) in omega arith

  total_from : (kinds : List ℕ) (a : Raised) → a.count + length kinds ≤ 4 → a.total ≤ 18446744073709551615
      → (foldl (raise hash t) a kinds).total ≡ min (a.total + length kinds) 18446744073709551615
  total_from [] a h b = omega arith
  total_from (k ∷ ks) a h b =
      let c = raise-count a k (omega arith) in
      let e = raise-total a k (omega arith) in
      let ih = total_from ks (raise hash t a k) (omega arith) (omega arith) in omega arith

  -- the alerts of a message: none is dropped
  module _ (id total : ℕ) (kinds : List ℕ) where
    pub raised_count : length kinds ≤ 4 → (raise_all hash t id total kinds).count ≡ length kinds
    unfolding raise_all
    raised_count h = let e = count_from kinds (none_raised id total) (omega arith) in omega arith

    -- each is counted, up to 2 ^ 64 - 1
    pub raised_total : length kinds ≤ 4 → total ≤ 18446744073709551615
        → (raise_all hash t id total kinds).total ≡ min (total + length kinds) 18446744073709551615
    unfolding raise_all
    raised_total h b = total_from kinds (none_raised id total) (omega arith) b

    -- the next id is not 0
    pub raised_id : (id ≡ 0 → ⊥) → (raise_all hash t id total kinds).next_id ≡ 0 → ⊥
    unfolding raise_all raise
    raised_id z =
        fold_keeps (raise hash t) (λ (a : Raised). a.next_id ≡ 0 → ⊥)
        (λ a k h. by (ltb a.count 4) (λ e. rw e (id_after_0 a.next_id)) (λ e. rw e h)) kinds z
