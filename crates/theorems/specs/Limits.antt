-- Demand 3, for any matcher of the rules: what a rate lets pass. `m` is a fresh monitor with its rules, and after it come only inspections whose timestamps never go back.
-- docs/LIMITS.md says the same for the support desk, with worked numbers. The proofs are in proofs/Upper.antt and proofs/Lower.antt. The upper half is the case without a removal of Removals.antt.
-- Assumes nothing.
use Rattle.std.specs.Prelude.{◌≡◌, true, List, [], ◌∷◌, ◌++◌, ℕ, ◌+◌, ◌-◌, ◌*◌, ◌/◌, ◌≤◌, length}
use Rattle.tables.specs.declared.identity.Id.{Id}
use Rattle.monitor.specs.declared.state.MqttMonitor.{MqttMonitor}
use Rattle.monitor.specs.Runs.{Call, after}
use Rattle.monitor.specs.Prepared.{Prepared}
use Rattle.theorems.specs.Run.{Matcher, time, is_allowed, reaches, InOrder, OneRate, Silent, allowed_of, arrived}

-- UPPER HALF. One identity x whose messages reach the limiter under one rate R. From one such message `a` to another, `z`, D microseconds later, both counted, at most
-- R + R x D / 1,000,000, rounded down, are allowed, however many other topics shout before them or between them
abbrev pub Upper : Type 0
Upper =
    (matcher : Matcher) (m : MqttMonitor) → Prepared m
    → (x : Id) (R : ℕ) (before between : List Call) (a z : Call)
    → InOrder (before ++ a ∷ between ++ z ∷ [])
    → OneRate matcher m x R (before ++ a ∷ between ++ z ∷ [])
    → reaches matcher m x a ≡ true → reaches matcher m x z ≡ true
    → allowed_of matcher (after matcher m before) x (a ∷ between ++ z ∷ []) ≤ R + R * (time z - time a) / 1000000

-- LOWER HALF, first messages. While no more than 32 identities have reached the limiter, the first such message of each is allowed
abbrev pub LowerFirst : Type 0
LowerFirst =
    (matcher : Matcher) (m : MqttMonitor) → Prepared m
    → (x : Id) (before : List Call) (z : Call)
    → InOrder (before ++ z ∷ [])
    → length (arrived matcher m [] (before ++ z ∷ [])) ≤ 32
    → Silent matcher m x before → reaches matcher m x z ≡ true
    → is_allowed matcher (after matcher m before) z ≡ true

-- LOWER HALF, later messages. A later one, `z`, that comes G microseconds after the one before it, `y`, is denied only if R x G is below 1,000,000
abbrev pub LowerLater : Type 0
LowerLater =
    (matcher : Matcher) (m : MqttMonitor) → Prepared m
    → (x : Id) (R : ℕ) (before between : List Call) (y z : Call)
    → InOrder (before ++ y ∷ between ++ z ∷ [])
    → length (arrived matcher m [] (before ++ y ∷ between ++ z ∷ [])) ≤ 32
    → OneRate matcher m x R (before ++ y ∷ between ++ z ∷ [])
    → reaches matcher m x y ≡ true → Silent matcher m x between → reaches matcher m x z ≡ true
    → 1000000 ≤ R * (time z - time y)
    → is_allowed matcher (after matcher m (before ++ y ∷ between)) z ≡ true
