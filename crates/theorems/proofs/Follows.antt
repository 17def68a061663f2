-- What follows from the exact lower half and the upper half, of any monitor: the lower halves of demand 3, and that where there is no room a message is denied. A run is known here by its verdicts
-- and by how many of the identity's messages pass in each part of it, and by nothing else. Assumes nothing.
use mathlib.Core.Bool.{Bool, true, false, cond, ◌&&◌}
use mathlib.Core.List.{List, [], ◌∷◌, ◌++◌, append_assoc, append-nil}
use mathlib.Core.Path.{◌≡◌, refl, sym, ap, ◌∙◌}
use Prim.Native.Nat.{ℕ, ◌+◌, ◌-◌, ◌*◌, ◌/◌, ◌<◌, ◌≤◌}
use native.Mathlib.Nat.{add-zero, mul-le-mul_left, mul-le-mul_right}
use native.Mathlib.Omega.{arith}
use borrow.Author.Tests.{le-leb, lt-leb, leb-true, leb-false, eqb-true, eqb-false}
use lib.Dec.{eqb, leb}
use Rattle.laws.proofs.Cases.{by}
use Rattle.tables.specs.declared.identity.Id.{Id}
use Rattle.tables.proofs.buckets.BucketLaws.{one}
use Rattle.monitor.specs.Runs.{Call}
use Rattle.monitor.specs.declared.state.MqttMonitor.{MqttMonitor}
use Rattle.theorems.specs.LowerExact.{NoRoom}
use Rattle.theorems.specs.Run.{Matcher, time, reaches, InOrder, OneRate, Silent, done, next}
use Rattle.theorems.proofs.Cuts.{timed_le, From, from_start, order_first, until, since, rate_first}
use Rattle.theorems.proofs.Holders.{clash}

-- whether there is no room, as a test: each message of the run after `past` is asked whether a stretch from it on leaves none
module _ (reach : Call → Bool) (count : List Call → List Call → ℕ) (R : ℕ) (z : Call) where
  unfoldable pub leaves_none : List Call → List Call → Bool
  leaves_none past [] = false
  leaves_none past (c ∷ cs) =
      cond (reach c && leb (R + R * (time z - time c) / 1000000) (count past (c ∷ cs))) true (leaves_none (past ++ c ∷ []) cs)

  found : (past earlier : List Call) (first : Call) (stretch : List Call) → reach first ≡ true
      → R + R * (time z - time first) / 1000000 ≤ count (past ++ earlier) (first ∷ stretch) → leaves_none past (earlier ++ first ∷ stretch) ≡ true
  unfolding leaves_none
  found past [] first stretch m s = rw (m, le-leb _ _ (rw (append-nil past) at s))
  found past (c ∷ earlier) first stretch m s =
      by (reach c && leb (R + R * (time z - time c) / 1000000) (count past (c ∷ (earlier ++ first ∷ stretch))))
      (λ e. rw e)
      (λ e. rw e (found (past ++ c ∷ []) earlier first stretch m (rw (← append_assoc past (c ∷ []) earlier) at s)))

  pub noticed : {run : List Call} → NoRoom reach count R run z → leaves_none [] run ≡ true
  noticed n = rw n.cut (found [] n.earlier n.first n.stretch n.mine n.passed)

-- a time's worth, in two parts
parts : (R a b c : ℕ) → a ≤ b → b ≤ c → R * (c - a) ≡ R * (b - a) + R * (c - b)
parts R a b c h k = omega (arith, ap (λ (n : ℕ). R * n) (let e : c - a ≡ (b - a) + (c - b) = omega arith in e))

-- a rate that earns a token is above 0
some : (R n : ℕ) → 1000000 ≤ R * n → 0 < R
some R n h =
    by (eqb R 0)
    (λ e. let z : R ≤ 0 = omega (arith, eqb-true R 0 e) in absurd (omega (arith, mul-le-mul_right n z)))
    (λ e. omega (arith, eqb-false R 0 e))

-- times of a run
sooner : (past mid : List Call) (c y : Call) → InOrder (past ++ c ∷ mid ++ y ∷ []) → time c ≤ time y
sooner past mid c y o =
    let f : From 0 (past ++ c ∷ (mid ++ y ∷ [])) = rw (append_assoc past (c ∷ mid) (y ∷ [])) at (from_start (past ++ c ∷ mid ++ y ∷ []) o) in
    timed_le mid (until y (time c) mid [] (since c 0 past (mid ++ y ∷ []) f))

module _ (matcher : Matcher) (p : MqttMonitor) (x : Id) (verdict : List Call → Call → Bool) (count : List Call → List Call → ℕ) where
  -- `count` counts the identity's messages that pass
  pub record Counts : Type 0 where
    pub none : (past : List Call) → count past [] ≡ 0
    pub last : (past cs : List Call) (c : Call) → count past (cs ++ c ∷ []) ≡ count past cs + one (reaches matcher p x c && verdict (past ++ cs) c)

  -- the upper half of it
  abbrev pub UpperAt : Type 0
  UpperAt =
      (R : ℕ) (before between : List Call) (a z : Call) → InOrder (before ++ a ∷ between ++ z ∷ []) → OneRate matcher p x R (before ++ a ∷ between ++ z ∷ [])
      → reaches matcher p x a ≡ true → reaches matcher p x z ≡ true → count before (a ∷ between ++ z ∷ []) ≤ R + R * (time z - time a) / 1000000

  -- where the identity is silent nothing is counted, and there is room
  adds_none : Counts → (past cs : List Call) {rest : List Call} → Silent matcher p x rest → count past (cs ++ rest) ≡ count past cs
  adds_none k past cs done = rw (append-nil cs)
  adds_none k past cs (next {c} {cs = rest} q r) =
      let e : count past (cs ++ c ∷ []) ≡ count past cs = rw q at (k.last past cs c) ∙ add-zero (count past cs) in
      ap (count past) (sym (append_assoc cs (c ∷ []) rest)) ∙ adds_none k past (cs ++ c ∷ []) r ∙ e

  quiet : (R : ℕ) (z : Call) (past : List Call) {rest : List Call} → Silent matcher p x rest → leaves_none (reaches matcher p x) count R z past rest ≡ false
  unfolding leaves_none
  quiet R z past done = refl
  quiet R z past (next {c} q r) = rw q (quiet R z (past ++ c ∷ []) r)

  -- a first message's run leaves room
  pub first_room : {R : ℕ} {before : List Call} {z : Call} → Silent matcher p x before → NoRoom (reaches matcher p x) count R before z → ⊥
  first_room {R} {z = z} s n = clash (noticed (reaches matcher p x) count R z n) (quiet R z [] s)

  module _ (k : Counts) (u : UpperAt) (R : ℕ) (y z : Call) (between : List Call) (ry : reaches matcher p x y ≡ true) (s : Silent matcher p x between)
      (g : 1000000 ≤ R * (time z - time y)) where
    -- time has passed since
    later_than : time y ≤ time z
    later_than = by (leb (time y) (time z)) (λ e. leb-true _ _ e) (λ e. absurd (nothing_earned e))
      where
        nothing_earned : leb (time y) (time z) ≡ false → ⊥
        nothing_earned e =
            let n : time z - time y ≤ 0 = omega (arith, leb-false (time y) (time z) e) in omega (arith, mul-le-mul_left R n)

    -- the stretch from the message before
    from_last : (past : List Call) → count past (y ∷ between) < R + R * (time z - time y) / 1000000
    from_last past =
        let e = adds_none k past (y ∷ []) s in
        let f = k.last past [] y in
        let n = k.none past in
        let r = some R (time z - time y) g in
        by (reaches matcher p x y && verdict (past ++ []) y)
        (λ v. let w : count past (y ∷ []) ≡ count past [] + 1 = rw v at f in omega arith)
        (λ v. let w : count past (y ∷ []) ≡ count past [] + 0 = rw v at f in omega arith)

    -- a stretch from an earlier one
    from_earlier : (past mid : List Call) (c : Call) → InOrder (past ++ c ∷ mid ++ y ∷ []) → OneRate matcher p x R (past ++ c ∷ mid ++ y ∷ []) → reaches matcher p x c ≡ true
        → count past (c ∷ (mid ++ y ∷ between)) < R + R * (time z - time c) / 1000000
    from_earlier past mid c o r rc =
        let e : count past (c ∷ (mid ++ y ∷ between)) ≡ count past (c ∷ mid ++ y ∷ []) =
        ap (count past) (sym (append_assoc (c ∷ mid) (y ∷ []) between)) ∙ adds_none k past (c ∷ mid ++ y ∷ []) s in
        let b = u R past mid c y o r rc ry in
        let w = parts R (time c) (time y) (time z) (sooner past mid c y o) later_than in
        omega arith

    later_leaves : (past before : List Call) → InOrder (past ++ before ++ y ∷ []) → OneRate matcher p x R (past ++ before ++ y ∷ [])
        → leaves_none (reaches matcher p x) count R z past (before ++ y ∷ between) ≡ false
    unfolding leaves_none
    later_leaves past [] o r = rw (ry, lt-leb _ _ (from_last past)) (quiet R z (past ++ y ∷ []) s)
    later_leaves past (c ∷ before) o r =
        let rest = later_leaves (past ++ c ∷ []) before (rw (← append_assoc past (c ∷ []) before) at o) (rw (← append_assoc past (c ∷ []) before) at r) in
        by (reaches matcher p x c)
        (λ e. rw (e, lt-leb _ _ (from_earlier past before c o r e)) rest)
        (λ e. rw e rest)

    -- a later message's run leaves room, once a token is earned
    pub later_room : (before : List Call) → InOrder (before ++ y ∷ between ++ z ∷ []) → OneRate matcher p x R (before ++ y ∷ between ++ z ∷ [])
        → NoRoom (reaches matcher p x) count R (before ++ y ∷ between) z → ⊥
    later_room before o r n =
        let whole = append_assoc before (y ∷ between) (z ∷ []) ∙ sym (append_assoc before (y ∷ []) (between ++ z ∷ [])) in
        clash (noticed (reaches matcher p x) count R z n)
        (later_leaves [] before (order_first (before ++ y ∷ []) (between ++ z ∷ []) (rw whole at o)) (rate_first (before ++ y ∷ []) (between ++ z ∷ []) (rw whole at r)))

  -- who passes where there is no room breaks the upper half
  pub no_room_denied : Counts → UpperAt → {R : ℕ} {before : List Call} {z : Call} → InOrder (before ++ z ∷ []) → OneRate matcher p x R (before ++ z ∷ []) → reaches matcher p x z ≡ true
      → NoRoom (reaches matcher p x) count R before z → verdict before z ≡ false
  no_room_denied k u {R} {before} {z} o r rz n =
      by (verdict before z)
      (λ v.
      let e = u R n.earlier n.stretch n.first z (rw n.cut at o) (rw n.cut at r) n.mine rz in
      let f = k.last n.earlier (n.first ∷ n.stretch) z in
      let w : verdict (n.earlier ++ n.first ∷ n.stretch) z ≡ true = rw n.cut at v in
      let q : count n.earlier (n.first ∷ n.stretch ++ z ∷ []) ≡ count n.earlier (n.first ∷ n.stretch) + 1 = rw (rz, w) at f in
      absurd (omega (arith, n.passed)))
      (λ v. v)
