-- The lower half of demand 3, exact (request C-17). A bucket keeps the part of a token that it earned, so nothing is lost but what runs over a full bucket; the limiter then has no reason to deny
-- but the upper half: while no more than 32 identities have reached the limiter, a message is denied only if letting it pass would break the upper half for some stretch of its identity's messages
-- that ends with it. Both lower halves of Limits.antt follow from this, of any monitor, and so are proved by it. The proofs are in proofs/LowerExact.antt and proofs/Follows.antt; that the step
-- before C-17 does not meet it is in Guider.antt.
-- Assumes nothing.
use Rattle.std.specs.Prelude.{◌≡◌, Bool, true, false, List, [], ◌∷◌, ◌++◌, ℕ, ◌+◌, ◌-◌, ◌*◌, ◌/◌, ◌≤◌, length}
use Rattle.tables.specs.declared.identity.Id.{Id}
use Rattle.monitor.specs.declared.state.MqttMonitor.{MqttMonitor}
use Rattle.monitor.specs.Runs.{Call, Monitor, shipped, after_by, after}
use Rattle.monitor.specs.Prepared.{Prepared}
use Rattle.monitor.specs.State.{matcher_of}
use Rattle.theorems.specs.Run.{Matcher, time, is_allowed, reaches, InOrder, OneRate, allowed_of, arrived}
use Rattle.theorems.specs.Shipped.{passes, passed_by, UpperBy, LowerBy, LaterBy}

-- a run leaves no room for a message `z` behind it: from some message `first` of the identity on, as many have passed as the upper half allows up to the time of `z`. `reach` is whether a message is
-- of the identity and reaches the limiter, and `count earlier` how many of these pass in a run that comes after `earlier`
pub record NoRoom (reach : Call → Bool) (count : List Call → List Call → ℕ) (R : ℕ) (run : List Call) (z : Call) : Type 0 where
  pub earlier : List Call
  pub first : Call
  pub stretch : List Call
  pub cut : run ≡ earlier ++ first ∷ stretch
  pub mine : reach first ≡ true
  pub passed : R + R * (time z - time first) / 1000000 ≤ count earlier (first ∷ stretch)

-- under any matcher
abbrev pub LowerExact : Type 0
LowerExact =
    (matcher : Matcher) (m : MqttMonitor) → Prepared m
    → (x : Id) (R : ℕ) (before : List Call) (z : Call)
    → InOrder (before ++ z ∷ [])
    → length (arrived matcher m [] (before ++ z ∷ [])) ≤ 32
    → OneRate matcher m x R (before ++ z ∷ [])
    → reaches matcher m x z ≡ true
    → is_allowed matcher (after matcher m before) z ≡ false
    → NoRoom (reaches matcher m x) (λ earlier. allowed_of matcher (after matcher m earlier) x) R before z

-- asked of any monitor, as demand 3 is in Shipped.antt: what leaves no room to it
abbrev pub NoRoomBy : Monitor → MqttMonitor → Id → ℕ → List Call → Call → Type 0
NoRoomBy f p x = NoRoom (reaches (matcher_of p) p x) (λ earlier. passed_by f p (after_by f p earlier) x)

abbrev pub ExactBy : Monitor → Type 0
ExactBy f =
    (p : MqttMonitor) → Prepared p
    → (x : Id) (R : ℕ) (before : List Call) (z : Call)
    → InOrder (before ++ z ∷ [])
    → length (arrived (matcher_of p) p [] (before ++ z ∷ [])) ≤ 32
    → OneRate (matcher_of p) p x R (before ++ z ∷ [])
    → reaches (matcher_of p) p x z ≡ true
    → passes f (after_by f p before) z ≡ false
    → NoRoomBy f p x R before z

-- where there is no room a monitor that keeps the upper half denies, however many identities have come: so "only if" is "exactly if"
abbrev pub DeniesBy : Monitor → Type 0
DeniesBy f =
    (p : MqttMonitor) → Prepared p
    → (x : Id) (R : ℕ) (before : List Call) (z : Call)
    → InOrder (before ++ z ∷ [])
    → OneRate (matcher_of p) p x R (before ++ z ∷ [])
    → reaches (matcher_of p) p x z ≡ true
    → NoRoomBy f p x R before z
    → passes f (after_by f p before) z ≡ false

-- what is claimed of it
pub record Exactness : Type 0 where
  -- it holds under any matcher, and of the shipped `inspect` in monitors of either choice
  pub any_matcher : LowerExact
  pub shipped_exact : ExactBy shipped
  -- of any monitor: the first messages' half follows from it
  pub gives_first : (f : Monitor) → ExactBy f → LowerBy f
  -- and, with the upper half, the later messages' half
  pub gives_later : (f : Monitor) → UpperBy f → ExactBy f → LaterBy f
  -- and the upper half alone gives the other direction
  pub denies : (f : Monitor) → UpperBy f → DeniesBy f
