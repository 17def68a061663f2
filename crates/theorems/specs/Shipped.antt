-- Demand 3 asked of any monitor, whatever it inspects by: on its own runs, with its own verdicts. Which messages reach the limiter is decided by the rules and by the matcher that the
-- fresh monitor chose. `Limits` says that it holds under any matcher; that it holds of the shipped `inspect`, in monitors of either choice, is `ShippedLimits` (request C-15). The same
-- statements shut out monitors that deny or allow everything (specs/ShutOut.antt). The proof is in proofs/Shipped.antt.
-- Assumes nothing.
use Rattle.std.specs.Prelude.{◌≡◌, Bool, true, cond, ◌&&◌, List, [], ◌∷◌, ◌++◌, ℕ, ◌+◌, ◌-◌, ◌*◌, ◌/◌, ◌≤◌, length}
use Rattle.tables.specs.declared.identity.Id.{Id}
use Rattle.monitor.specs.Runs.{Call, Monitor, shipped, after_by}
use Rattle.monitor.specs.Prepared.{Prepared}
use Rattle.monitor.specs.State.{matcher_of}
use Rattle.monitor.specs.declared.state.MqttMonitor.{MqttMonitor}
use Rattle.theorems.specs.Run.{time, reaches, InOrder, OneRate, Silent, arrived}

-- a monitor's verdict
abbrev pub passes : Monitor → MqttMonitor → Call → Bool
passes f m c = (f m c).result.allowed

-- how many messages of an identity that reach the limiter it lets pass in a run; rules and matcher are those of the prepared `p`
unfoldable pub passed_by : Monitor → MqttMonitor → MqttMonitor → Id → List Call → ℕ
passed_by f p m x [] = 0
passed_by f p m x (c ∷ cs) = cond (reaches (matcher_of p) p x c && passes f m c) 1 0 + passed_by f p (f m c).monitor x cs

-- demand 3's upper half
abbrev pub UpperFrom : Monitor → MqttMonitor → Type 0
UpperFrom f p =
    (x : Id) (R : ℕ) (before between : List Call) (a z : Call)
    → InOrder (before ++ a ∷ between ++ z ∷ [])
    → OneRate (matcher_of p) p x R (before ++ a ∷ between ++ z ∷ [])
    → reaches (matcher_of p) p x a ≡ true → reaches (matcher_of p) p x z ≡ true
    → passed_by f p (after_by f p before) x (a ∷ between ++ z ∷ []) ≤ R + R * (time z - time a) / 1000000

-- its lower half, first messages
abbrev pub LowerFrom : Monitor → MqttMonitor → Type 0
LowerFrom f p =
    (x : Id) (before : List Call) (z : Call)
    → InOrder (before ++ z ∷ [])
    → length (arrived (matcher_of p) p [] (before ++ z ∷ [])) ≤ 32
    → Silent (matcher_of p) p x before → reaches (matcher_of p) p x z ≡ true
    → passes f (after_by f p before) z ≡ true

-- its lower half, later messages
abbrev pub LaterFrom : Monitor → MqttMonitor → Type 0
LaterFrom f p =
    (x : Id) (R : ℕ) (before between : List Call) (y z : Call)
    → InOrder (before ++ y ∷ between ++ z ∷ [])
    → length (arrived (matcher_of p) p [] (before ++ y ∷ between ++ z ∷ [])) ≤ 32
    → OneRate (matcher_of p) p x R (before ++ y ∷ between ++ z ∷ [])
    → reaches (matcher_of p) p x y ≡ true → Silent (matcher_of p) p x between → reaches (matcher_of p) p x z ≡ true
    → 1000000 ≤ R * (time z - time y)
    → passes f (after_by f p (before ++ y ∷ between)) z ≡ true

-- of every fresh monitor
abbrev pub UpperBy : Monitor → Type 0
UpperBy f = (p : MqttMonitor) → Prepared p → UpperFrom f p

abbrev pub LowerBy : Monitor → Type 0
LowerBy f = (p : MqttMonitor) → Prepared p → LowerFrom f p

abbrev pub LaterBy : Monitor → Type 0
LaterBy f = (p : MqttMonitor) → Prepared p → LaterFrom f p

-- the shipped `inspect` meets all of it, whichever matcher its monitor chose
pub record ShippedLimits : Type 0 where
  pub upper : UpperBy shipped
  pub lower_first : LowerBy shipped
  pub lower_later : LaterBy shipped
