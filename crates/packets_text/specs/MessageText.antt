-- A message as text, as a form: the seven lines of a trace's message (document 01, "The trace"), in their order. `trace` reads them; that both agree is claimed in ReadBack.antt.
-- Assumes nothing.
use Rattle.std.specs.Prelude.{Bool, cond, List, ℕ}
use Rattle.slices.specs.Bytes.{bytes}
use Rattle.forms.specs.Form.{Form, number_form, word_form, hex_form, pair_form}
use Rattle.tables.specs.Numbers.{qos_number}
use Rattle.monitor.specs.Message.{type_number}
use Rattle.monitor.specs.declared.message.MqttMessage.{MqttMessage}

-- the values in the order of the lines: time, the clock's word by its place, type, QoS, topic, size, inspected part of the payload
abbrev pub MessageValues : Type 0
MessageValues = ℕ × (ℕ × (ℕ × (ℕ × (List ℕ × (ℕ × List ℕ)))))

-- the lines: `at=` 64-bit, `clock=ok|bad`, `type=` 1..15, `qos=` 0..2, `topic=` hex, `size=` 0..65535, `payload=` hex
unfoldable pub message_lines : Form MessageValues
message_lines =
    pair_form (number_form (bytes "at=") 0 18446744073709551615)
    (λ t. pair_form (word_form (bytes "clock=") (bytes "ok|bad"))
    (λ c. pair_form (number_form (bytes "type=") 1 15)
    (λ k. pair_form (number_form (bytes "qos=") 0 2)
    (λ q. pair_form (hex_form (bytes "topic=") 128)
    (λ n. pair_form (number_form (bytes "size=") 0 65535)
    (λ z. hex_form (bytes "payload=") 256))))))

-- the clock's word by its place in `ok|bad`
abbrev pub clock_number : Bool → ℕ
clock_number ok = cond ok 0 1

-- what the lines of a message say
abbrev pub values_of : MqttMessage → List ℕ → List ℕ → MessageValues
values_of msg topic payload = (
  msg.timestamp_us,
  (
    clock_number msg.timestamp_ok,
    (
      type_number msg.packet_type,
      (
        qos_number msg.qos,
        (
          topic,
          (
            msg.payload_len,
            payload,
          ),
        ),
      ),
    ),
  ),
)

-- the seven lines of a message with its topic and the inspected part of its payload
unfoldable pub message_text : MqttMessage → List ℕ → List ℕ → List ℕ
message_text msg topic payload = message_lines.text (values_of msg topic payload)
