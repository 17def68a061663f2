-- What our statements shut out (document 01, "How firmly each answer is bound"): a candidate is any function in the place of ours, and none that meets the statement is the wrong thing.
-- A monitor that denies or allows everything is shut out by demand 3 alone, asked of the candidate's own runs and verdicts; the others by the promise, that each answer is
-- the definition's. docs/SHUT-OUT.md has the list. The proofs are in proofs/ShutOut.antt. Assumes nothing.
use Rattle.std.specs.Prelude.{◌≡◌, Bool, true, false, List, ℕ, ◌<◌}
use Rattle.topics.specs.Matching.{port_matches, standard_matches}
use Rattle.topics.specs.declared.matching.Matching.{Matching}
use Rattle.topics.specs.declared.matching.StandardMatch.{StandardMatch}
use Rattle.monitor.specs.Calls.{validate_rules}
use Rattle.monitor.specs.Runs.{Call, Monitor, shipped}
use Rattle.monitor.specs.declared.state.MqttMonitor.{MqttMonitor}
use Rattle.monitor.specs.Ended.{Outcome, Done}
use Rattle.trace.specs.Trace.{trace_end}
use Rattle.trace.specs.declared.run.TraceEnd.{TraceEnd}
use Rattle.theorems.specs.Run.{Matcher}
use Rattle.theorems.specs.Shipped.{passes, UpperBy, LowerBy, LaterBy}

-- a monitor that meets the promise of `inspect`
abbrev pub Meets : Monitor → Type 0
Meets f = (m : MqttMonitor) (c : Call) → f m c ≡ shipped m c

-- what is shut out
pub record ShutOut : Type 0 where
  -- by demand 3's lower half, which the shipped monitor meets (specs/Shipped.antt): a monitor that denies everything
  pub denies_everything : (f : Monitor) → LowerBy f → ¬ ((m : MqttMonitor) (c : Call) → passes f m c ≡ false)
  -- one that lets a first message pass and denies all that come later
  pub denies_later : (f : Monitor) → LaterBy f → ¬ ((m : MqttMonitor) (c d : Call) → passes f (f m c).monitor d ≡ false)
  -- by its upper half: one that allows everything
  pub allows_everything : (f : Monitor) → UpperBy f → ¬ ((m : MqttMonitor) (c : Call) → passes f m c ≡ true)
  -- by the promise: one whose state never moves
  pub never_moves : (f : Monitor) → Meets f → ¬ ((m : MqttMonitor) (c : Call) → (f m c).monitor ≡ m)
  -- one that works on its first message only: after it the state stays
  pub first_only : (f : Monitor) → Meets f → ¬ ((m : MqttMonitor) (c d : Call) → (f (f m c).monitor d).monitor ≡ (f m c).monitor)
  -- a matcher with one reply, the port's or the standard's
  pub one_reply : (g : Matcher) → ((t p : List ℕ) → g t p ≡ port_matches t p) → (b : Bool) → ¬ ((t p : List ℕ) → g t p ≡ b)
  pub one_reply_standard :
      (g : List ℕ → List ℕ → StandardMatch) → ((t p : List ℕ) → g t p ≡ standard_matches t p) → (b : StandardMatch)
      → ¬ ((t p : List ℕ) → g t p ≡ b)
  -- an alert invented for every message
  pub invented_alert : (f : Monitor) → Meets f → ¬ ((m : MqttMonitor) (c : Call) → 0 < (f m c).result.alert_count)
  -- a shadow count of its own, the same for all rules
  pub invented_shadow : (v : MqttMonitor → Outcome) → ((m : MqttMonitor) → v m ≡ validate_rules m) → (n : ℕ) → ¬ ((m : MqttMonitor) → v m ≡ Done n)
  -- a line count of its own, the same for all traces
  pub invented_line :
      (matching : Matching) (g : ℕ → List ℕ → TraceEnd) → ((room : ℕ) (text : List ℕ) → g room text ≡ trace_end matching room text)
      → (n : ℕ) → ¬ ((room : ℕ) (text : List ℕ) → (g room text).line ≡ n)
