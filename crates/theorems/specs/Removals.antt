-- The upper half of demand 3 where buckets are removed on a live hub (request C-24): each removal that succeeds may cost one whole bucket more, whoever's it was, since a place that became free is a
-- full bucket for whoever takes it. Times and rates are asked of the run's messages; a removal has neither. Demand 3's own upper half is the case of a run without other calls, of any candidate.
-- docs/LIMITS.md says it for the support desk. The proofs are in proofs/Removals.antt; runs that meet the bound are in RemovalRuns.antt.
-- Assumes nothing.
use Rattle.std.specs.Prelude.{◌≡◌, Bool, true, cond, not, ◌&&◌, List, [], ◌∷◌, ◌++◌, ℕ, ◌+◌, ◌-◌, ◌*◌, ◌/◌, ◌≤◌, eqb}
use Rattle.tables.specs.declared.identity.Id.{Id}
use Rattle.monitor.specs.Acts.{Other, Act, inspects, asks, Candidate, ours, after_acts, messages, removals}
use Rattle.monitor.specs.Prepared.{Prepared}
use Rattle.monitor.specs.Runs.{Call, Monitor, answer, shipped}
use Rattle.monitor.specs.State.{matcher_of, number_of}
use Rattle.monitor.specs.declared.state.MqttMonitor.{MqttMonitor}
use Rattle.theorems.specs.Run.{Matcher, time, reaches, InOrder, OneRate}
use Rattle.theorems.specs.Shipped.{passes, UpperBy}

-- how many of the messages for which `reach` holds a candidate lets pass in a run
unfoldable pub passed_in : Candidate → (Call → Bool) → MqttMonitor → List Act → ℕ
passed_in h reach m [] = 0
passed_in h reach m (inspects c ∷ acts) = cond (reach c && passes h.inspect m c) 1 0 + passed_in h reach (h.inspect m c).monitor acts
passed_in h reach m (asks o ∷ acts) = passed_in h reach (h.ask m o).monitor acts

-- UPPER HALF, of a candidate's runs from a fresh monitor `m`. One identity x whose messages reach the limiter under one rate R. From one such message `a` to another, `z`, D microseconds later, both
-- counted, with K buckets removed between the two, of any topics, at most (K + 1) x R + R x D / 1,000,000, rounded down, are allowed. What was removed before `a` costs nothing
abbrev pub UpperRemoved : Matcher → Candidate → MqttMonitor → Type 0
UpperRemoved matcher h m =
    (x : Id) (R : ℕ) (before between : List Act) (a z : Call)
    → InOrder (messages (before ++ inspects a ∷ between ++ inspects z ∷ []))
    → OneRate matcher m x R (messages (before ++ inspects a ∷ between ++ inspects z ∷ []))
    → reaches matcher m x a ≡ true → reaches matcher m x z ≡ true
    → passed_in h (reaches matcher m x) (after_acts h m before) (inspects a ∷ between ++ inspects z ∷ [])
    ≤ (removals h (after_acts h m (before ++ inspects a ∷ [])) between + 1) * R + R * (time z - time a) / 1000000

-- asked of any candidate, as demand 3 is of any monitor in Shipped.antt
abbrev pub UpperRemovedBy : Candidate → Type 0
UpperRemovedBy h = (p : MqttMonitor) → Prepared p → UpperRemoved (matcher_of p) h p

-- a call that is no inspection fails: it is refused
abbrev pub has_failed : Candidate → MqttMonitor → Other → Bool
has_failed h m o = not (eqb (number_of (h.ask m o).outcome) 0)

-- a run without the calls in it that fail
unfoldable pub without_failed : Candidate → MqttMonitor → List Act → List Act
without_failed h m [] = []
without_failed h m (inspects c ∷ acts) = inspects c ∷ without_failed h (h.inspect m c).monitor acts
without_failed h m (asks o ∷ acts) = cond (has_failed h m o) (without_failed h (h.ask m o).monitor acts) (asks o ∷ without_failed h (h.ask m o).monitor acts)

-- is the same run: it ends in the same state, the same messages pass, and as many buckets are removed
pub record FailedFree (h : Candidate) (m : MqttMonitor) (acts : List Act) : Type 0 where
  pub left : after_acts h m (without_failed h m acts) ≡ after_acts h m acts
  pub passed : (reach : Call → Bool) → passed_in h reach m (without_failed h m acts) ≡ passed_in h reach m acts
  pub removed : removals h m (without_failed h m acts) ≡ removals h m acts

-- what is claimed of removals
pub record Removals : Type 0 where
  -- the bound holds under any matcher, and of the shipped calls in monitors of either choice
  pub any_matcher : (matcher : Matcher) (m : MqttMonitor) → Prepared m → UpperRemoved matcher (ours (answer matcher)) m
  pub shipped_calls : UpperRemovedBy (ours shipped)
  -- of any candidate: demand 3's own upper half is its case without a removal
  pub gives_upper : (h : Candidate) → UpperRemovedBy h → UpperBy h.inspect
  -- removals that fail cost nothing, whatever inspects
  pub failed_free : (f : Monitor) (m : MqttMonitor) (acts : List Act) → FailedFree (ours f) m acts
