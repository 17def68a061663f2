-- Document 01, "The trace": a whole trace. It is an opening with its rules, a list of messages, and an end; the text that goes out is a fold over that list. The text says nothing of
-- the matcher: whoever asks for a trace chooses it (request C-15), and what is read is the same under either (specs/AsRun.antt).
-- Assumes nothing.
use Rattle.std.specs.Prelude.{Bool, cond, List, [], ◌∷◌, ◌++◌, ℕ, zero, suc, ◌+◌, eqb, leb, length, Result, Ok, Err}
use Rattle.std.proofs.lemmas.List.Edits.{sets}
use Rattle.topics.specs.declared.matching.Matching.{Matching}
use Rattle.tables.specs.declared.rules.TopicAction.{TopicAction}
use Rattle.tables.specs.declared.rules.TopicAction.TheVariants.{Allow}
use Rattle.tables.specs.declared.rules.TopicRule.{TopicRule}
use Rattle.monitor.specs.Calls.{fresh, add_rule}
use Rattle.monitor.specs.Inspect.{applied, result_of}
use Rattle.monitor.specs.Plan.{plan_of}
use Rattle.monitor.specs.Runs.{Call}
use Rattle.monitor.specs.State.{matcher_of, number_of}
use Rattle.monitor.specs.declared.plan.Plan.{Plan}
use Rattle.monitor.specs.declared.state.MqttMonitor.{MqttMonitor}
use Rattle.rules_text.specs.RuleGroup.{rule_at, pattern_in}
use Rattle.trace.specs.Groups.{opening_of, message_at, topic_in, payload_in}
use Rattle.trace.specs.Record.{record_text, closing_text}
use Rattle.trace.specs.declared.groups.OpeningLines.{OpeningLines}
use Rattle.rules_text.specs.declared.read.RuleLines.{RuleLines}
use Rattle.trace.specs.declared.reading.Place.{Place}
use Rattle.trace.specs.declared.reading.Stop.{Stop}
use Rattle.trace.specs.declared.run.TraceEnd.{TraceEnd}

-- the messages of a trace, and how it ended: number and line
pub record Messages : Type 0 where
  pub sent : List Call
  pub number : ℕ
  pub line : ℕ

-- what an opening and its rules gave: a monitor, or the number and line of the refusal; `next` is the place after the last line read
pub record Loaded : Type 0 where
  pub number : ℕ
  pub line : ℕ
  pub next : ℕ
  pub monitor : MqttMonitor

-- the rules were not loaded
abbrev pub not_loaded : ℕ → ℕ → ℕ → MqttMonitor → Loaded
not_loaded number line next m = record { number = number; line = line; next = next; monitor = m }

-- what is loaded, by an answer and the monitor that it left
abbrev pub loaded_as : Result Place Stop → MqttMonitor → Loaded
loaded_as (Ok place) m = record { number = 0; line = place.line; next = place.next; monitor = m }
loaded_as (Err stop) m = not_loaded stop.number stop.line stop.next m

-- a rule that was read after `line` lines, added: a refusal stands at its `rate=` line
unfoldable pub rule_into : MqttMonitor → List ℕ → ℕ → RuleLines → Loaded
rule_into m s line r =
    cond (eqb r.number 0)
    (record {
      number = number_of (add_rule m (pattern_in s r) r.action r.qos_policy r.rate).outcome;
      line = line + 4;
      next = r.next;
      monitor = (add_rule m (pattern_in s r) r.action r.qos_policy r.rate).monitor;
    })
    (not_loaded r.number (line + 1 + r.line) r.next m)

-- so many rules more: `l` is what was loaded before them
unfoldable pub rules_into : ℕ → List ℕ → Loaded → Loaded
rules_into zero s l = l
rules_into (suc k) s l = cond (eqb l.number 0) (rules_into k s (rule_into l.monitor s l.line (rule_at s l.next))) l

-- the opening and its rules: a fresh monitor with them, or where it stopped
unfoldable pub loaded_from : Matching → List ℕ → OpeningLines → Loaded
loaded_from matching s o =
    cond (eqb o.number 0)
    (rules_into o.rules s (record { number = 0; line = 2; next = o.next; monitor = fresh matching o.default_action }))
    (not_loaded o.number (1 + o.line) o.next (fresh matching o.default_action))

-- 27 for input over 65,536 bytes is tested first, line 0
unfoldable pub loaded : Matching → List ℕ → Loaded
loaded matching s = cond (leb (length s) 65536) (loaded_from matching s (opening_of s)) (not_loaded 27 0 0 (fresh matching Allow))

-- what an opening and its rules gave, but for the matcher
pub record LoadedRules : Type 0 where
  pub number : ℕ
  pub line : ℕ
  pub next : ℕ
  pub default_action : TopicAction
  pub rule_count : ℕ
  pub rules : List TopicRule

-- the monitor's default and rules, which say all of it: the rest is as in a fresh one (proofs/run/LoadLaws.antt, `loaded-monitor`)
abbrev pub rules_of : Loaded → LoadedRules
rules_of l =
    record {
      number = l.number;
      line = l.line;
      next = l.next;
      default_action = l.monitor.default_action;
      rule_count = l.monitor.rule_count;
      rules = l.monitor.rules;
    }

-- no more messages
abbrev pub ended_by : ℕ → ℕ → Messages
ended_by number line = record { sent = []; number = number; line = line }

-- one message more in front
abbrev pub sent_first : Call → Messages → Messages
sent_first x ms = record { sent = x ∷ ms.sent; number = ms.number; line = ms.line }

-- the messages from a place to the end of the text, `line` lines being read; there are fewer of them than bytes, which is the first number
unfoldable pub messages_from : ℕ → List ℕ → ℕ → ℕ → Messages
messages_from zero s at line = ended_by 0 line
messages_from (suc k) s at line =
    cond (leb (length s) at) (ended_by 0 line)
    (cond (eqb (message_at s at).number 0)
    (sent_first
    (record { msg = (message_at s at).msg; topic = topic_in s (message_at s at); payload = payload_in s (message_at s at) })
    (messages_from k s (message_at s at).next (line + 7)))
    (ended_by (message_at s at).number (line + 1 + (message_at s at).line)))

-- all messages of a trace: none where its opening or a rule was refused
unfoldable pub messages_of : Matching → List ℕ → Messages
messages_of matching s =
    let l = loaded matching s in cond (eqb l.number 0) (messages_from (length s + 1) s l.next l.line) (ended_by l.number l.line)

-- what a message does to the monitor, whose own matcher chooses the rule
abbrev pub planned : MqttMonitor → Call → Plan
planned m x = plan_of (matcher_of m) m x.msg x.topic x.payload

-- the records of messages from the n-th on, then the closing lines
unfoldable pub text_from : MqttMonitor → ℕ → List Call → ℕ → ℕ → List ℕ
text_from m n [] number line = closing_text number line m.total_inspected m.total_alerts
text_from m n (x ∷ xs) number line = record_text n (result_of (planned m x)) ++ text_from (applied m (planned m x)) (n + 1) xs number line

-- what a trace prints
unfoldable pub trace_text : Matching → List ℕ → List ℕ
trace_text matching s =
    let ms = messages_of matching s in text_from (loaded matching s).monitor 1 ms.sent ms.number ms.line

-- room for what any trace prints, 12 bytes for each of 65,536: a message takes at least the 44 bytes of its keys and LFs and prints at most 528, which is 12 times
-- as much; the closing lines are at most 109, less than 12 times the bytes of an opening (proofs/Bound.antt)
abbrev pub enough : ℕ
enough = 786432

-- how a trace ends where all its lines are written
abbrev pub whole_end : Matching → List ℕ → TraceEnd
whole_end matching s = record { number = (messages_of matching s).number; line = (messages_of matching s).line; length = length (trace_text matching s) }

-- how it ends, in a buffer of so much room: 28 where that is shorter than all lines
unfoldable pub trace_end : Matching → ℕ → List ℕ → TraceEnd
trace_end matching room s = cond (leb (length (trace_text matching s)) room) (whole_end matching s) (record { number = 28; line = 0; length = 0 })

-- the buffer after it: 28 leaves it as it was
unfoldable pub trace_kept : Matching → List ℕ → List ℕ → List ℕ
trace_kept matching d s = cond (leb (length (trace_text matching s)) (length d)) (sets d 0 (trace_text matching s)) d

-- a buffer after a text that a pass writes at a place, or only counts
abbrev pub put_if : Bool → List ℕ → ℕ → List ℕ → List ℕ
put_if write d at t = cond write (sets d at t) d
