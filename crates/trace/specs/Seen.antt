-- What the messages of a trace came to: the state that they leave, the time of the last of them, and who named what. A trace that is refused keeps the messages before its bad line.
-- Assumes nothing.
use Rattle.std.specs.Prelude.{Bool, false, cond, ◌&&◌, ◌||◌, List, [], ◌∷◌, ℕ, ◌+◌, eqb, length}
use Rattle.slices.specs.Bytes.{same}
use Rattle.topics.specs.declared.matching.Matching.{Matching}
use Rattle.tables.specs.Identity.{id_of, is_of}
use Rattle.tables.specs.declared.identity.Id.{Id}
use Rattle.monitor.specs.Message.{type_number}
use Rattle.monitor.specs.Runs.{Call, shipped, after_by}
use Rattle.monitor.specs.declared.state.MqttMonitor.{MqttMonitor}
use Rattle.trace.specs.Trace.{loaded, messages_from, messages_of}
use Rattle.trace.specs.declared.seen.Seen.{Seen}

-- the messages from a place of the text on
abbrev pub sent_from : List ℕ → ℕ → List Call
sent_from s at = (messages_from (length s + 1) s at 0).sent

-- the place of the first message; the text's end where the opening or a rule was refused
unfoldable pub first_place : Matching → List ℕ → ℕ
first_place matching s = cond (eqb (loaded matching s).number 0) (loaded matching s).next (length s)

-- the time of the last message, and before the first one `t`
unfoldable pub last_time : ℕ → List Call → ℕ
last_time t [] = t
last_time t (x ∷ xs) = last_time x.msg.timestamp_us xs

-- the state after them all, as the shipped `inspect` leaves it
abbrev pub end_state : Matching → List ℕ → MqttMonitor
end_state matching s = after_by shipped (loaded matching s).monitor (messages_of matching s).sent

-- all of it, with how the trace ended
abbrev pub seen_in : Matching → List ℕ → Seen
seen_in matching s =
    record {
      number = (messages_of matching s).number;
      line = (messages_of matching s).line;
      first = first_place matching s;
      last = last_time 0 (messages_of matching s).sent;
      monitor = end_state matching s;
    }

-- the topic of the first message that has an identity; empty where none has
unfoldable pub named_by : List Call → Id → List ℕ
named_by [] held = []
named_by (x ∷ xs) held = cond (is_of (id_of x.topic) held) x.topic (named_by xs held)

-- it is a Publish
abbrev pub is_publish : Call → Bool
is_publish x = eqb (type_number x.msg.packet_type) 3

-- a Publish among the messages names a topic
unfoldable pub is_named : List Call → List ℕ → Bool
is_named [] topic = false
is_named (x ∷ xs) topic = is_publish x && same topic x.topic || is_named xs topic
