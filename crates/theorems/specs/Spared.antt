-- Whom a removal costs something (beside request C-24, which counts every removal): an identity that is left without a bucket, since the one removed was its own, or since it had lost its bucket to
-- another before. A removal after which the identity still has its bucket does not raise its bound. So the bound of Removals.antt holds with fewer removals counted, and follows from this one.
-- The proofs are in proofs/Felt.antt and proofs/Removals.antt.
-- Assumes nothing.
use Rattle.std.specs.Prelude.{◌≡◌, Bool, true, not, ◌&&◌, List, [], ◌∷◌, ◌++◌, ℕ, ◌+◌, ◌-◌, ◌*◌, ◌/◌, ◌≤◌, ltb}
use Rattle.tables.specs.Buckets.{holds_bucket}
use Rattle.tables.specs.Scan.{find}
use Rattle.tables.specs.declared.identity.Id.{Id}
use Rattle.monitor.specs.Acts.{Other, Act, inspects, Candidate, ours, after_acts, messages, has_removed, others_in}
use Rattle.monitor.specs.Prepared.{Prepared}
use Rattle.monitor.specs.Runs.{Call, answer, shipped}
use Rattle.monitor.specs.State.{matcher_of}
use Rattle.monitor.specs.declared.state.MqttMonitor.{MqttMonitor}
use Rattle.theorems.specs.Removals.{passed_in, UpperRemovedBy}
use Rattle.theorems.specs.Run.{Matcher, time, reaches, InOrder, OneRate}

-- an identity has a bucket in a state
abbrev pub has_bucket : Id → MqttMonitor → Bool
has_bucket x m = ltb (find (holds_bucket x) m.rate_buckets) 32

-- a call removes a bucket, and the identity is then without one
abbrev pub is_felt : Candidate → Id → MqttMonitor → Other → Bool
is_felt h x m o = has_removed h m o && not (has_bucket x (h.ask m o).monitor)

-- how many such calls a run has
abbrev pub felt : Candidate → Id → MqttMonitor → List Act → ℕ
felt h x = others_in h (is_felt h x)

-- the upper half as in Removals.antt, with these alone counted
abbrev pub UpperFelt : Matcher → Candidate → MqttMonitor → Type 0
UpperFelt matcher h m =
    (x : Id) (R : ℕ) (before between : List Act) (a z : Call)
    → InOrder (messages (before ++ inspects a ∷ between ++ inspects z ∷ []))
    → OneRate matcher m x R (messages (before ++ inspects a ∷ between ++ inspects z ∷ []))
    → reaches matcher m x a ≡ true → reaches matcher m x z ≡ true
    → passed_in h (reaches matcher m x) (after_acts h m before) (inspects a ∷ between ++ inspects z ∷ [])
    ≤ (felt h x (after_acts h m (before ++ inspects a ∷ [])) between + 1) * R + R * (time z - time a) / 1000000

abbrev pub UpperFeltBy : Candidate → Type 0
UpperFeltBy h = (p : MqttMonitor) → Prepared p → UpperFelt (matcher_of p) h p

-- what is claimed of it
pub record Spared : Type 0 where
  -- it holds under any matcher, and of the shipped calls in monitors of either choice
  pub any_matcher : (matcher : Matcher) (m : MqttMonitor) → Prepared m → UpperFelt matcher (ours (answer matcher)) m
  pub shipped_calls : UpperFeltBy (ours shipped)
  -- of any candidate: the bound with all removals counted follows
  pub gives_removed : (h : Candidate) → UpperFeltBy h → UpperRemovedBy h
