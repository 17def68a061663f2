-- The messages of a packet that has several, one after the other: they ask no table, so what they print follows from the rules and the counters, and only the counters change. That this is what
-- inspecting them singly prints and changes is a law (proofs/several/LightLaws.antt); the run's own definition (Queue.antt) does not speak of it.
-- Assumes nothing.
use Rattle.std.specs.Prelude.{List, [], ◌∷◌, ◌++◌, ℕ, ◌+◌}
use Rattle.tables.specs.declared.rules.TopicAction.{TopicAction}
use Rattle.tables.specs.declared.rules.TopicRule.{TopicRule}
use Rattle.topics.specs.Matching.{matches_by}
use Rattle.topics.specs.declared.matching.Matching.{Matching}
use Rattle.monitor.specs.Alerts.{counted}
use Rattle.monitor.specs.Gate.{gate_of}
use Rattle.monitor.specs.Inspect.{result_of}
use Rattle.monitor.specs.Light.{light_plan}
use Rattle.monitor.specs.Runs.{Call}
use Rattle.monitor.specs.declared.plan.Plan.{Plan}
use Rattle.monitor.specs.declared.state.MqttMonitor.{MqttMonitor}
use Rattle.trace.specs.Record.{record_text}

-- what of a monitor answers a message that asks no table: the rules, the default, and the matcher
pub record Rulebook : Type 0 where
  pub rules : List TopicRule
  pub count : ℕ
  pub default_action : TopicAction
  pub matching : Matching

abbrev pub book_of : MqttMonitor → Rulebook
book_of m = record { rules = m.rules; count = m.rule_count; default_action = m.default_action; matching = m.matching }

-- what such messages move: the alert id to come, and the two counts
pub record Counters : Type 0 where
  pub next_id : ℕ
  pub inspected : ℕ
  pub total : ℕ

-- the plan of a message by a monitor's rules, for the alert id to come and the alert total so far
unfoldable pub light_for : Rulebook → ℕ → ℕ → Call → Plan
light_for book next total c =
    light_plan next total c.msg c.payload
    (gate_of (matches_by book.matching) book.rules book.count book.default_action c.msg c.topic)

-- their records, the first being the n-th
unfoldable pub light_text : Rulebook → ℕ → ℕ → ℕ → List Call → List ℕ
light_text book n next total [] = []
light_text book n next total (c ∷ cs) =
    record_text n (result_of (light_for book next total c))
    ++ light_text book (n + 1) (light_for book next total c).raised.next_id (light_for book next total c).raised.total cs

-- the counters after one of them, and after all
unfoldable pub light_on : Rulebook → Counters → Call → Counters
light_on book k c =
    record {
      next_id = (light_for book k.next_id k.total c).raised.next_id;
      inspected = counted k.inspected;
      total = (light_for book k.next_id k.total c).raised.total;
    }

unfoldable pub light_after : Rulebook → Counters → List Call → Counters
light_after book k [] = k
light_after book k (c ∷ cs) = light_after book (light_on book k c) cs
