-- What is claimed of two calls one after the other (request C-12): whoever calls again at the place where a call ended, with the state that it left, gets what one call on all of the bytes gives, if
-- neither ends by 28. The first may have ended by any number: by 28, and then there is room; or by 31, and then the bytes that were missing are there. Ordinals count from 1 in each call.
-- Assumes nothing.
use Rattle.std.specs.Prelude.{List, ◌++◌, ◌≡◌, ℕ, ◌+◌, length, drop}
use Rattle.monitor.specs.Runs.{shipped, after_by, replies_by}
use Rattle.monitor.specs.declared.state.MqttMonitor.{MqttMonitor}
use Rattle.trace.specs.AsRun.{records_text}
use Rattle.queue.specs.Queue.{Wake, wake_of, records_of, ran_of, sent_of}

-- the call again: the bytes from the place on where a call ended, with bytes that came meanwhile, and other room
abbrev pub again_at : Wake → ℕ → List ℕ → ℕ → Wake
again_at w place more room = wake_of (drop place (w.bytes ++ more)) w.time w.ok room

-- one call on all of the bytes
abbrev pub at_once : Wake → List ℕ → ℕ → Wake
at_once w more room = wake_of (w.bytes ++ more) w.time w.ok room

module _ (m : MqttMonitor) (w : Wake) (more : List ℕ) (room : ℕ) where
  -- the state that the first call left, and what the second does
  abbrev pub left_by : MqttMonitor
  left_by = after_by shipped m (sent_of m w)

  abbrev pub second : Wake
  second = again_at w (ran_of m w).place more room

  pub record Joins (whole : ℕ) : Type 0 where
    -- it ends by the same number, at the same place
    pub number : (ran_of m (at_once w more whole)).number ≡ (ran_of left_by second).number
    pub place : (ran_of m (at_once w more whole)).place ≡ (ran_of m w).place + (ran_of left_by second).place
    -- with the messages of both
    pub sent : sent_of m (at_once w more whole) ≡ sent_of m w ++ sent_of left_by second
    -- whose results are those of both
    pub replies : replies_by shipped m (sent_of m (at_once w more whole)) ≡ replies_by shipped m (sent_of m w) ++ replies_by shipped left_by (sent_of left_by second)
    -- and whose records are too, but for the ordinals, which go on where there is one call
    pub records :
        records_of m (sent_of m (at_once w more whole))
        ≡ records_of m (sent_of m w) ++ records_text (1 + length (sent_of m w)) (replies_by shipped left_by (sent_of left_by second))
    -- and the same state
    pub state : after_by shipped m (sent_of m (at_once w more whole)) ≡ after_by shipped left_by (sent_of left_by second)

-- for every state, call and bytes, and all rooms that are enough
abbrev pub CallsJoin : Type 0
CallsJoin =
    (m : MqttMonitor) (w : Wake) (more : List ℕ) (room whole : ℕ) → ((ran_of (left_by m w more room) (second m w more room)).number ≡ 28 → ⊥)
    → ((ran_of m (at_once w more whole)).number ≡ 28 → ⊥) → Joins m w more room whole
