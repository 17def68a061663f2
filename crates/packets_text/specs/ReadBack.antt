-- What is claimed of the lines: the trace's reader reads them back. So the lines of a capture behind an opening are a trace, and its messages are those of the packets.
-- Assumes nothing.
use Rattle.std.specs.Prelude.{Bool, List, [], ◌∷◌, ◌≡◌, ℕ, ◌+◌, ◌*◌, ◌≤◌, ◌<◌, length, get_or}
use Rattle.forms.specs.Stands.{Stands}
use Rattle.monitor.specs.Runs.{Call}
use Rattle.monitor.specs.declared.message.MqttMessage.{MqttMessage}
use Rattle.packets.specs.Packet.{packet_at}
use Rattle.packets.specs.Taken.{calls_at}
use Rattle.trace.specs.Groups.{message_at, topic_in, payload_in}
use Rattle.trace.specs.Trace.{Messages, sent_first, messages_from}
use Rattle.packets_text.specs.MessageText.{message_text}
use Rattle.packets_text.specs.PacketText.{packet_text}

-- a list of bytes
abbrev pub IsBytes : List ℕ → Type 0
IsBytes s = (i : ℕ) → get_or s i 0 < 256

-- a message that says how long its topic and the inspected part of its payload are, none of which is too long or too large for a trace
pub record Writable (msg : MqttMessage) (topic payload : List ℕ) : Type 0 where
  pub time : msg.timestamp_us ≤ 18446744073709551615
  pub size : msg.payload_len ≤ 65535
  pub topic_long : (length topic ≡ msg.topic_len) × (msg.topic_len ≤ 128)
  pub payload_long : (length payload ≡ msg.payload_inspectable_len) × (msg.payload_inspectable_len ≤ 256)
  pub topic_bytes : IsBytes topic
  pub payload_bytes : IsBytes payload

-- the trace's reader reads a message at a place, and the next one begins at `r`
pub record Reads (s : List ℕ) (at r : ℕ) (m : MqttMessage) (t p : List ℕ) : Type 0 where
  pub number : (message_at s at).number ≡ 0
  pub next : (message_at s at).next ≡ r
  pub msg : (message_at s at).msg ≡ m
  pub topic : topic_in s (message_at s at) ≡ t
  pub payload : payload_in s (message_at s at) ≡ p

-- calls before others
unfoldable pub sent_all : List Call → Messages → Messages
sent_all [] ms = ms
sent_all (x ∷ xs) ms = sent_first x (sent_all xs ms)

-- what is read of a trace's text from a place on, so many lines being read before it
abbrev pub read_from : List ℕ → ℕ → ℕ → Messages
read_from s at line = messages_from (length s + 1) s at line

pub record ReadBack : Type 0 where
  -- where the lines of a message stand in a text, the trace's reader reads that message
  pub message :
      {s : List ℕ} {at r : ℕ} {msg : MqttMessage} {topic payload : List ℕ} → Writable msg topic payload → Stands s at (message_text msg topic payload) r
      → Reads s at r msg topic payload
  -- where those of a packet stand, all of its messages are read, in order, and then what follows, seven lines for each being read
  pub packet :
      (bytes : List ℕ) (place now_us : ℕ) (ok : Bool) → IsBytes bytes → now_us ≤ 18446744073709551615 → (packet_at bytes place).number ≡ 0
      → (s : List ℕ) (at r line : ℕ) → Stands s at (packet_text bytes place now_us ok) r
      → read_from s at line ≡ sent_all (calls_at bytes place now_us ok) (read_from s r (line + (packet_at bytes place).messages * 7))
  -- the lines of a message are not longer
  pub short : (msg : MqttMessage) (topic payload : List ℕ) → Writable msg topic payload → length (message_text msg topic payload) ≤ 843
