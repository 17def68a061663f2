-- Where the limit stands after a trace, as text: lines that follow the closing lines where they are asked for (docs/STANDING.md). First the time of the last message and how many places are
-- taken, by whom, the oldest first, and from when on a new topic passes; then each topic that reached the limiter, in the order of their last messages.
-- Assumes nothing.
use Rattle.std.specs.Prelude.{Bool, cond, not, ◌&&◌, List, [], ◌∷◌, ◌++◌, ℕ, ◌+◌, ◌-◌, eqb, leb, ltb, length}
use Rattle.std.proofs.lemmas.List.Edits.{sets}
use Rattle.slices.specs.Bytes.{bytes}
use Rattle.lines.specs.Line.{number_line, hex_line, seconds_line}
use Rattle.topics.specs.Shown.{shown}
use Rattle.topics.specs.declared.matching.Matching.{Matching}
use Rattle.tables.specs.Standing.{opening_new, taken_in, oldest_first}
use Rattle.tables.specs.declared.buckets.RateBucket.{RateBucket}
use Rattle.tables.specs.declared.standing.Opening.{Opening}
use Rattle.tables.specs.declared.standing.Opening.TheVariants.{Never, From}
use Rattle.monitor.specs.Message.{type_number}
use Rattle.monitor.specs.Runs.{Call}
use Rattle.monitor.specs.Standing.{standing_in, left_in, Left, Outlook}
use Rattle.monitor.specs.declared.message.MqttPacketType.{MqttPacketType}
use Rattle.monitor.specs.declared.state.MqttMonitor.{MqttMonitor}
use Rattle.trace.specs.Seen.{last_time, end_state, named_by, is_named}
use Rattle.trace.specs.Trace.{messages_of}
use Rattle.trace.specs.declared.run.TraceEnd.{TraceEnd}

-- a topic in hex, and as a person reads it
unfoldable pub name_text : List ℕ → List ℕ → List ℕ
name_text key topic = hex_line key topic ++ bytes "text=" ++ shown topic ++ bytes "\n"

-- from when on, in microseconds, and how many seconds that is after a time
unfoldable pub opening_text : List ℕ → ℕ → Opening → List ℕ
opening_text key last Never = key ++ bytes "never\n" ++ bytes "wait=never\n"
opening_text key last (From u) = number_line key u ++ seconds_line (bytes "wait=") (u - last)

-- the places that are taken
unfoldable pub places_text : List Call → List RateBucket → List ℕ
places_text calls [] = []
places_text calls (b ∷ bs) = name_text (bytes "place=") (named_by calls b.id) ++ places_text calls bs

-- how many messages of a topic would pass at that very time: one more than a message leaves, none where it is denied
abbrev pub tokens_of : Left → ℕ
tokens_of l = cond (eqb l.kind 0) (l.tokens + 1) 0

-- where the limit stands for a topic, by what the two calls say of it, with the time of the last message
unfoldable pub topic_text : List ℕ → Outlook → Left → ℕ → List ℕ
topic_text topic o l last =
    name_text (bytes "topic=") topic ++ number_line (bytes "rate=") o.rate ++ number_line (bytes "tokens=") (tokens_of l)
    ++ number_line (bytes "kind=") o.kind ++ opening_text (bytes "from=") last o.opening

-- a message reached the limiter, and no later one names its topic
abbrev pub speaks_last : MqttMonitor → MqttPacketType → List ℕ → List Call → Bool
speaks_last m type topic later = eqb (type_number type) 3 && ltb 0 (standing_in m topic).rate && not (is_named later topic)

-- its topic's lines, at its last message
abbrev pub message_text : MqttMonitor → ℕ → MqttPacketType → List ℕ → List Call → List ℕ
message_text m last type topic later = cond (speaks_last m type topic later) (topic_text topic (standing_in m topic) (left_in m topic last) last) []

-- the topics that reached the limiter
unfoldable pub topics_text : MqttMonitor → ℕ → List Call → List ℕ
topics_text m last [] = []
topics_text m last (x ∷ xs) = message_text m last x.msg.packet_type x.topic xs ++ topics_text m last xs

-- all lines of a state after messages, the last of them at a time
unfoldable pub standing_lines : MqttMonitor → ℕ → List Call → List ℕ
standing_lines m last calls =
    (number_line (bytes "last=") last ++ number_line (bytes "taken=") (taken_in m.rate_buckets))
    ++ places_text calls (oldest_first 32 m.rate_buckets) ++ opening_text (bytes "new=") last (opening_new m.rate_buckets) ++ topics_text m last calls

-- all lines of a trace
abbrev pub standing_text : Matching → List ℕ → List ℕ
standing_text matching s = standing_lines (end_state matching s) (last_time 0 (messages_of matching s).sent) (messages_of matching s).sent

-- how the trace ended, in a buffer of so much room: 28 where that is shorter than all lines
unfoldable pub standing_end : Matching → ℕ → List ℕ → TraceEnd
standing_end matching room s =
    cond (leb (length (standing_text matching s)) room)
    (record { number = (messages_of matching s).number; line = (messages_of matching s).line; length = length (standing_text matching s) })
    (record { number = 28; line = 0; length = 0 })

-- the buffer after it: 28 leaves it as it was
unfoldable pub standing_kept : Matching → List ℕ → List ℕ → List ℕ
standing_kept matching d s = cond (leb (length (standing_text matching s)) (length d)) (sets d 0 (standing_text matching s)) d
