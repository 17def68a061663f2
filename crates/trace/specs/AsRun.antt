-- A trace is a run of inspections: what it prints is what the shipped `inspect` answers to its messages, one after the other, from the fresh monitor that its opening loads. So what is
-- claimed of runs holds of what is printed. For every text, also one that is too long, whose opening is refused (no message is then inspected), or a rule of which (the rules
-- before it stay loaded), or that stops at a bad line. The proof is in proofs/AsRun.antt.
-- Assumes nothing.
use Rattle.std.specs.Prelude.{◌≡◌, true, List, [], ◌∷◌, ◌++◌, ℕ, ◌+◌}
use Rattle.laws.specs.Lists.{every}
use Rattle.topics.specs.declared.matching.Matching.{Matching}
use Rattle.monitor.specs.Prepared.{Prepared}
use Rattle.monitor.specs.Runs.{Reply, shipped, replies_by, after_by, is_inspected}
use Rattle.monitor.specs.declared.state.MqttMonitor.{MqttMonitor}
use Rattle.trace.specs.Record.{record_text, closing_text}
use Rattle.trace.specs.Trace.{loaded, rules_of, messages_of, trace_text}

-- the lines of replies one after the other, the first being the n-th
unfoldable pub records_text : ℕ → List Reply → List ℕ
records_text n [] = []
records_text n (r ∷ rs) = record_text n r.given.result ++ records_text (n + 1) rs

-- the replies of a trace's run
abbrev pub replies_of : Matching → List ℕ → List Reply
replies_of matching s = replies_by shipped (loaded matching s).monitor (messages_of matching s).sent

-- the state after its last message
abbrev pub last_of : Matching → List ℕ → MqttMonitor
last_of matching s = after_by shipped (loaded matching s).monitor (messages_of matching s).sent

pub record AsRun (matching : Matching) (s : List ℕ) : Type 0 where
  -- it begins with a fresh monitor
  pub prepared : Prepared (loaded matching s).monitor
  -- that chose the matcher
  pub choice : (loaded matching s).monitor.matching ≡ matching
  -- every message that was read is inspected, and none refused
  pub inspected : every is_inspected (replies_of matching s) ≡ true
  -- the text is the replies' lines, numbered from 1, then the closing lines with the counters after the last message
  pub text :
      trace_text matching s
      ≡ records_text 1 (replies_of matching s)
      ++ closing_text (messages_of matching s).number (messages_of matching s).line (last_of matching s).total_inspected (last_of matching s).total_alerts

-- What is read does not depend on the matcher: the same default and rules, the same messages, and the same end with its line; or the same refusal
pub record SameRead (s : List ℕ) : Type 0 where
  pub rules : (a b : Matching) → rules_of (loaded a s) ≡ rules_of (loaded b s)
  pub messages : (a b : Matching) → messages_of a s ≡ messages_of b s

-- for every text
abbrev pub ReadAlike : Type 0
ReadAlike = (s : List ℕ) → SameRead s
