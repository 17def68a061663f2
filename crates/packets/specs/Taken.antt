-- What is claimed of every message that `message_at` hands out, at whatever place and step it is asked: it lies within its packet, and `inspect` takes it.
-- Assumes nothing.
use Rattle.std.specs.Prelude.{Bool, List, map, ◌≡◌, ℕ, ◌+◌, ◌≤◌, length, drop}
use Rattle.lines.specs.Span.{part}
use Rattle.monitor.specs.Inspect.{inspect_refusal}
use Rattle.monitor.specs.Runs.{Call}
use Rattle.monitor.specs.declared.state.MqttMonitor.{MqttMonitor}
use Rattle.packets.specs.Header.{body_from, size_of}
use Rattle.packets.specs.Messages.{message_at, messages_at, ToldMessage}

-- the bytes of its topic, and of the inspected part of its payload
abbrev pub topic_bytes : List ℕ → ToldMessage → List ℕ
topic_bytes s m = part s m.topic_from m.topic_to

abbrev pub payload_bytes : List ℕ → ToldMessage → List ℕ
payload_bytes s m = part s m.payload_from m.payload_to

-- as a call of `inspect`: the message, and exactly the bytes that it uses
abbrev pub call_of : List ℕ → ToldMessage → Call
call_of s m = record { msg = m.msg; topic = topic_bytes s m; payload = payload_bytes s m }

-- the messages of the packet at a place as such calls
abbrev pub calls_at : List ℕ → ℕ → ℕ → Bool → List Call
calls_at s place now_us ok = map (call_of s) (messages_at s place now_us ok)

-- a message lies within the packet at a place, behind its header, and says how long its topic and the inspected part of its payload are; its size is one that a trace can say
pub record Within (s : List ℕ) (place : ℕ) (m : ToldMessage) : Type 0 where
  pub whole : place + size_of (drop place s) ≤ length s
  pub topic :
      (place + body_from (drop place s) ≤ m.topic_from) × (m.topic_from ≤ m.topic_to) × (m.topic_to ≤ place + size_of (drop place s))
  pub payload :
      (place + body_from (drop place s) ≤ m.payload_from) × (m.payload_from ≤ m.payload_to)
      × (m.payload_to ≤ place + size_of (drop place s))
  pub topic_long : (length (topic_bytes s m) ≡ m.msg.topic_len) × (m.msg.topic_len ≤ 128)
  pub payload_long : (length (payload_bytes s m) ≡ m.msg.payload_inspectable_len) × (m.msg.payload_inspectable_len ≤ 256)
  pub size : m.msg.payload_len ≤ 65535

pub record Taken : Type 0 where
  pub within :
      (s : List ℕ) (place step now_us : ℕ) (ok : Bool) → (message_at s place step now_us ok).number ≡ 0
      → Within s place (message_at s place step now_us ok)
  -- its time and its verdict are the caller's
  pub timed :
      (s : List ℕ) (place step now_us : ℕ) (ok : Bool) → (message_at s place step now_us ok).number ≡ 0
      → ((message_at s place step now_us ok).msg.timestamp_us ≡ now_us) × ((message_at s place step now_us ok).msg.timestamp_ok ≡ ok)
  -- 9 cannot occur: whatever the monitor, only 10 can refuse it
  pub inspected :
      (s : List ℕ) (place step now_us : ℕ) (ok : Bool) → (message_at s place step now_us ok).number ≡ 0 → (monitor : MqttMonitor)
      → inspect_refusal monitor (message_at s place step now_us ok).msg (topic_bytes s (message_at s place step now_us ok))
      (payload_bytes s (message_at s place step now_us ok)) ≡ 9
      → ⊥
