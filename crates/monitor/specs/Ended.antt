-- How a call on the state ends, in numbers: what definitions and theorems speak of. Code hands back a `Result`, and each word `told_` says what it tells in these.
-- Assumes nothing.
use Rattle.std.specs.Prelude.{ℕ, Result, Ok, Err}
use Rattle.monitor.specs.Refusal.{refusal_number}
use Rattle.monitor.specs.declared.alerts.MqttInspectResult.{MqttInspectResult}
use Rattle.monitor.specs.declared.gate.Stage.{Stage}
use Rattle.monitor.specs.declared.refusal.Refusal.{Refusal}
use Rattle.monitor.specs.declared.state.MqttMonitor.{MqttMonitor}

-- a number of its own (the shadow count, or 0), or the number of document 01 that refuses it
pub data Outcome : Type 0 where
  Done : ℕ → Outcome
  Refused : ℕ → Outcome

-- a call's outcome, beside the state that it leaves
pub record Called : Type 0 where
  pub outcome : Outcome
  pub monitor : MqttMonitor

-- what an inspection hands back; refused, `result` is a denial without alerts and the state is as given
pub record Inspected : Type 0 where
  pub outcome : Outcome
  pub stage : Stage
  pub result : MqttInspectResult
  pub monitor : MqttMonitor

-- the outcome of a call that hands a number back
abbrev pub told_value : Result ℕ Refusal → Outcome
told_value (Ok value) = Done value
told_value (Err e) = Refused (refusal_number e)

-- the outcome of a call that hands back nothing, and with it the state that it leaves
abbrev pub told_done : Result Unit Refusal → Outcome
told_done (Ok done) = Done 0
told_done (Err e) = Refused (refusal_number e)

abbrev pub called_as : Result Unit Refusal → MqttMonitor → Called
called_as r m = record { outcome = told_done r; monitor = m }
