-- Inspections in a loop, without text: the rules and messages that are made from numbers, the state after so many messages on lent topics, and how many of them were allowed. A message's plan and
-- the state after it are the monitor's own definitions.
-- Assumes nothing.
use Rattle.std.specs.Prelude.{true, cond, ◌||◌, List, ◌∷◌, ◌++◌, ℕ, zero, suc, ◌+◌, ◌*◌, ◌%◌, ltb, leb, length}
use Rattle.slices.specs.Bytes.{bytes}
use Rattle.lines.specs.Span.{part}
use Rattle.topics.specs.declared.matching.Matching.TheVariants.{Port}
use Rattle.tables.specs.declared.rules.MqttQoS.TheVariants.{AtLeastOnce}
use Rattle.tables.specs.declared.rules.QosPolicy.TheVariants.{MinQoS}
use Rattle.tables.specs.declared.rules.TopicAction.TheVariants.{Allow, Block}
use Rattle.monitor.specs.Alerts.{counted}
use Rattle.monitor.specs.Calls.{fresh, add_rule}
use Rattle.monitor.specs.Inspect.{applied}
use Rattle.monitor.specs.Plan.{plan_of}
use Rattle.monitor.specs.State.{matcher_of}
use Rattle.monitor.specs.declared.message.MqttMessage.{MqttMessage}
use Rattle.monitor.specs.declared.message.MqttPacketType.TheVariants.{Publish}
use Rattle.monitor.specs.declared.plan.Plan.{Plan}
use Rattle.monitor.specs.declared.state.MqttMonitor.{MqttMonitor}

-- a pattern that takes no topic below `site/+/lamp`: `site/+/room_0/#` and so on
abbrev pub pattern_at : ℕ → List ℕ
pattern_at k = bytes "site/+/room-" ++ ((48 + k % 32) ∷ bytes "/#")

-- where the next topic begins, in a text of topics of one width: after the last comes the first
abbrev pub next_from : ℕ → ℕ → ℕ → ℕ
next_from long width from = cond (leb (from + width + width) long) (from + width) 0

-- where the k-th message's topic begins
unfoldable pub from_at : ℕ → ℕ → ℕ → ℕ
from_at long width zero = 0
from_at long width (suc k) = next_from long width (from_at long width k)

-- the k-th message, 10,000 microseconds after the one before it
abbrev pub loop_message : ℕ → ℕ → ℕ → MqttMessage
loop_message width size k =
    record {
      packet_type = Publish;
      topic_len = width;
      qos = AtLeastOnce;
      payload_len = size;
      payload_inspectable_len = 2;
      timestamp_us = k * 10000;
      timestamp_ok = true;
    }

-- a state with one rule more, which limits
abbrev pub with_pattern : MqttMonitor → List ℕ → MqttMonitor
with_pattern m pattern = (add_rule m pattern Allow (MinQoS AtLeastOnce) 65535).monitor

-- so many rules that take none of these
unfoldable pub ruled : ℕ → MqttMonitor
ruled zero = fresh Port Block
ruled (suc k) = with_pattern (ruled k) (pattern_at k)

-- and one last that takes every topic below `site/+/lamp`
abbrev pub readied : ℕ → MqttMonitor
readied n = with_pattern (ruled n) (bytes "site/+/lamp/+")

-- messages of one size, on topics of one width in turn
module _ (n : ℕ) (topics : List ℕ) (width size : ℕ) where
  -- what the k-th message does to a state
  abbrev pub plan_at : MqttMonitor → ℕ → Plan
  plan_at m k =
      plan_of (matcher_of m) m (loop_message width size k) (part topics (from_at (length topics) width k) (from_at (length topics) width k + width)) (bytes "on")

  -- the state after the first messages
  unfoldable pub state_after : ℕ → MqttMonitor
  state_after zero = readied n
  state_after (suc k) = applied (state_after k) (plan_at (state_after k) k)

  -- how many of them were allowed
  unfoldable pub allowed_after : ℕ → ℕ
  allowed_after zero = 0
  allowed_after (suc k) = cond (plan_at (state_after k) k).allowed (counted (allowed_after k)) (allowed_after k)

  -- and 0 where a topic has more than 128 bytes, of which `inspect` would use the first 128, or none is lent whole
  unfoldable pub loop_allowed : ℕ → ℕ
  loop_allowed k = cond (ltb 128 width || ltb (length topics) width) 0 (allowed_after k)
