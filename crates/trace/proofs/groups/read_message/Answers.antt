-- `trace::groups::read_message` meets its contract: each line, read or refused, as the definition has them; the buffers are written by the lines of topic and
-- payload alone. Assumes nothing.
use Prim.Native.Nat.{ℕ}
use mathlib.Core.Path.{◌≡◌, refl, sym, ◌∙◌}
use mathlib.Core.List.{List}
use native.Mathlib.Omega.{arith}
use lib.ListN.{length}
use borrow.Author.Tests.{eq-eqb, ne_eqb}
use Rattle.lines.specs.declared.read.Field.{Field}
use Rattle.trace.specs.Groups.{MessageIn, message_at, message1, message2, message3, message4, message5, message6, message7}
use Rattle.trace.specs.Groups.{topic_line, topic_kept, topic1, topic2, topic3, topic4}
use Rattle.trace.specs.Groups.{payload_line, payload_kept, payload1, payload2, payload3, payload4, payload5, payload6}
use Rattle.trace.specs.declared.groups.MessageLines.{MessageLines}
use Rattle.trace.proofs.groups.GroupLaws.{message_within}
use Rattle.forms.proofs.LineBounds.{number_fits, hex_fits}
use borrow.Author.Rules.{rules}
use Rattle.trace.proofs.groups.read_message.Goals.{After-hex_field-data, After-hex_field-name, After-number_field-kind, After-number_field-qos, After-number_field-size}
use Rattle.trace.proofs.groups.read_message.Goals.{After-number_field-time, After-word_field-clock}
use Rattle.trace.proofs.groups.read_message.Goals as goal

-- What a statement at a place may speak of, so that it need not count its way back: s, at, d and e are the text, where the message begins and the two buffers as
-- they were lent; then comes what each line up to there gave, by the letters of the definitions, t c k q n z p. The buffer of a topic, x, and of a payload, y,
-- as its call left it, stands after its answer; it is the fourth argument of that call, `.last .1 .1 .1 .0`.
abbrev Of : Type 1 → Type 1
Of X = List ℕ → ℕ → List ℕ → List ℕ → Field → X

-- What the contract's three definitions have become: m, x and y. At a line's place the lines before it were read, so the definition of that line alone is left;
-- each step below takes one more line, by the test of the line before and by what its own call gave.
record Left (s : List ℕ) (at : ℕ) (d e : List ℕ) (m : MessageLines) (x y : List ℕ) : Type 0 where
  message : message_at s at ≡ m
  topic : topic_kept s at d ≡ x
  payload : payload_kept s at e ≡ y

-- A return's promises. The line at which it stands was refused, or was the last: either ends the definitions.
ends : {s : List ℕ} {at : ℕ} {d e : List ℕ} {m r : MessageLines} {x y : List ℕ} → Left s at d e m x y → r ≡ m
    → (r ≡ message_at s at) × (MessageIn s r × ((x ≡ topic_kept s at d) × (y ≡ payload_kept s at e)))
ends {at = at} w e = let g = e ∙ sym w.message in (g, (message_within _ at g, (sym w.topic, sym w.payload)))

abbrev upto_time_at_After_hex_field_data : (c : After-hex_field-data) → {X : Type 1} → Of X → X
upto_time_at_After_hex_field_data c P = let a = c.args in P a.text.now a.at a.topic.now a.payload.now c.number_field-time.result

abbrev upto_time_at_After_number_field_size : (c : After-number_field-size) → {X : Type 1} → Of X → X
upto_time_at_After_number_field_size c P = let a = c.args in P a.text.now a.at a.topic.now a.payload.now c.number_field-time.result

abbrev upto_time_at_After_hex_field_name : (c : After-hex_field-name) → {X : Type 1} → Of X → X
upto_time_at_After_hex_field_name c P = let a = c.args in P a.text.now a.at a.topic.now a.payload.now c.number_field-time.result

abbrev upto_time_at_After_number_field_qos : (c : After-number_field-qos) → {X : Type 1} → Of X → X
upto_time_at_After_number_field_qos c P = let a = c.args in P a.text.now a.at a.topic.now a.payload.now c.number_field-time.result

abbrev upto_time_at_After_number_field_kind : (c : After-number_field-kind) → {X : Type 1} → Of X → X
upto_time_at_After_number_field_kind c P = let a = c.args in P a.text.now a.at a.topic.now a.payload.now c.number_field-time.result

abbrev upto_time_at_After_word_field_clock : (c : After-word_field-clock) → {X : Type 1} → Of X → X
upto_time_at_After_word_field_clock c P = let a = c.args in P a.text.now a.at a.topic.now a.payload.now c.number_field-time.result

abbrev upto_time : (c : After-number_field-time) → {X : Type 1} → Of X → X
upto_time c P = let a = c.args in P a.text.now a.at a.topic.now a.payload.now c.number_field-time.result

abbrev upto_clock_at_After_hex_field_data : (c : After-hex_field-data) → {X : Type 1} → Of (Field → X) → X
upto_clock_at_After_hex_field_data c P = upto_time_at_After_hex_field_data c P c.word_field-clock.result

abbrev upto_clock_at_After_number_field_size : (c : After-number_field-size) → {X : Type 1} → Of (Field → X) → X
upto_clock_at_After_number_field_size c P = upto_time_at_After_number_field_size c P c.word_field-clock.result

abbrev upto_clock_at_After_hex_field_name : (c : After-hex_field-name) → {X : Type 1} → Of (Field → X) → X
upto_clock_at_After_hex_field_name c P = upto_time_at_After_hex_field_name c P c.word_field-clock.result

abbrev upto_clock_at_After_number_field_qos : (c : After-number_field-qos) → {X : Type 1} → Of (Field → X) → X
upto_clock_at_After_number_field_qos c P = upto_time_at_After_number_field_qos c P c.word_field-clock.result

abbrev upto_clock_at_After_number_field_kind : (c : After-number_field-kind) → {X : Type 1} → Of (Field → X) → X
upto_clock_at_After_number_field_kind c P = upto_time_at_After_number_field_kind c P c.word_field-clock.result

abbrev upto_clock : (c : After-word_field-clock) → {X : Type 1} → Of (Field → X) → X
upto_clock c P = upto_time_at_After_word_field_clock c P c.word_field-clock.result

abbrev upto_type_at_After_hex_field_data : (c : After-hex_field-data) → {X : Type 1} → Of (Field → Field → X) → X
upto_type_at_After_hex_field_data c P = upto_clock_at_After_hex_field_data c P c.number_field-kind.result

abbrev upto_type_at_After_number_field_size : (c : After-number_field-size) → {X : Type 1} → Of (Field → Field → X) → X
upto_type_at_After_number_field_size c P = upto_clock_at_After_number_field_size c P c.number_field-kind.result

abbrev upto_type_at_After_hex_field_name : (c : After-hex_field-name) → {X : Type 1} → Of (Field → Field → X) → X
upto_type_at_After_hex_field_name c P = upto_clock_at_After_hex_field_name c P c.number_field-kind.result

abbrev upto_type_at_After_number_field_qos : (c : After-number_field-qos) → {X : Type 1} → Of (Field → Field → X) → X
upto_type_at_After_number_field_qos c P = upto_clock_at_After_number_field_qos c P c.number_field-kind.result

abbrev upto_type : (c : After-number_field-kind) → {X : Type 1} → Of (Field → Field → X) → X
upto_type c P = upto_clock_at_After_number_field_kind c P c.number_field-kind.result

abbrev upto_qos_at_After_hex_field_data : (c : After-hex_field-data) → {X : Type 1} → Of (Field → Field → Field → X) → X
upto_qos_at_After_hex_field_data c P = upto_type_at_After_hex_field_data c P c.number_field-qos.result

abbrev upto_qos_at_After_number_field_size : (c : After-number_field-size) → {X : Type 1} → Of (Field → Field → Field → X) → X
upto_qos_at_After_number_field_size c P = upto_type_at_After_number_field_size c P c.number_field-qos.result

abbrev upto_qos_at_After_hex_field_name : (c : After-hex_field-name) → {X : Type 1} → Of (Field → Field → Field → X) → X
upto_qos_at_After_hex_field_name c P = upto_type_at_After_hex_field_name c P c.number_field-qos.result

abbrev upto_qos : (c : After-number_field-qos) → {X : Type 1} → Of (Field → Field → Field → X) → X
upto_qos c P = upto_type_at_After_number_field_qos c P c.number_field-qos.result

abbrev upto_topic_at_After_hex_field_data : (c : After-hex_field-data) → {X : Type 1} → Of (Field → Field → Field → Field → List ℕ → X) → X
upto_topic_at_After_hex_field_data c P = upto_qos_at_After_hex_field_data c P c.hex_field-name.result c.hex_field-name.new.out

abbrev upto_topic_at_After_number_field_size : (c : After-number_field-size) → {X : Type 1} → Of (Field → Field → Field → Field → List ℕ → X) → X
upto_topic_at_After_number_field_size c P = upto_qos_at_After_number_field_size c P c.hex_field-name.result c.hex_field-name.new.out

abbrev upto_topic : (c : After-hex_field-name) → {X : Type 1} → Of (Field → Field → Field → Field → List ℕ → X) → X
upto_topic c P = upto_qos_at_After_hex_field_name c P c.hex_field-name.result c.hex_field-name.new.out

abbrev upto_size_at_After_hex_field_data : (c : After-hex_field-data) → {X : Type 1} → Of (Field → Field → Field → Field → List ℕ → Field → X) → X
upto_size_at_After_hex_field_data c P = upto_topic_at_After_hex_field_data c P c.number_field-size.result

abbrev upto_size : (c : After-number_field-size) → {X : Type 1} → Of (Field → Field → Field → Field → List ℕ → Field → X) → X
upto_size c P = upto_topic_at_After_number_field_size c P c.number_field-size.result

abbrev upto_payload : (c : After-hex_field-data) → {X : Type 1} → Of (Field → Field → Field → Field → List ℕ → Field → Field → List ℕ → X) → X
upto_payload c P = upto_size_at_After_hex_field_data c P c.hex_field-data.result c.hex_field-data.new.out

-- the two lines in hex have the room of their buffers, which the definitions fix
topic_is_at_After_hex_field_data : (here : After-hex_field-data) → upto_topic_at_After_hex_field_data here (λ s at d e t c k q n x. n ≡ topic_line s q)
topic_is_at_After_hex_field_data here =
    let l : upto_topic_at_After_hex_field_data here (λ s at d e t c k q n x. length d ≡ 128) = search rules in rw l at here.hex_field-name.ensures.value

-- the two lines in hex have the room of their buffers, which the definitions fix
topic_is_at_After_number_field_size : (here : After-number_field-size) → upto_topic_at_After_number_field_size here (λ s at d e t c k q n x. n ≡ topic_line s q)
topic_is_at_After_number_field_size here =
    let l : upto_topic_at_After_number_field_size here (λ s at d e t c k q n x. length d ≡ 128) = search rules in rw l at here.hex_field-name.ensures.value

-- the two lines in hex have the room of their buffers, which the definitions fix
topic_is : (here : After-hex_field-name) → upto_topic here (λ s at d e t c k q n x. n ≡ topic_line s q)
topic_is here =
    let l : upto_topic here (λ s at d e t c k q n x. length d ≡ 128) = search rules in rw l at here.hex_field-name.ensures.value

payload_is : (here : After-hex_field-data) → upto_payload here (λ s at d e t c k q n x z p y. p ≡ payload_line s z)
payload_is here =
    let l : upto_payload here (λ s at d e t c k q n x z p y. length e ≡ 256) = search rules in rw l at here.hex_field-data.ensures.value

left_time_at_After_hex_field_data : (c : After-hex_field-data) → upto_time_at_After_hex_field_data c (λ s at d e t. Left s at d e (message1 s t) (topic1 s t d) (payload1 s t e))
unfolding message_at topic_kept payload_kept
left_time_at_After_hex_field_data c = rw c.number_field-time.ensures.value (record { message = refl; topic = refl; payload = refl })

left_time_at_After_number_field_size : (c : After-number_field-size) → upto_time_at_After_number_field_size c (λ s at d e t. Left s at d e (message1 s t) (topic1 s t d) (payload1 s t e))
unfolding message_at topic_kept payload_kept
left_time_at_After_number_field_size c = rw c.number_field-time.ensures.value (record { message = refl; topic = refl; payload = refl })

left_time_at_After_hex_field_name : (c : After-hex_field-name) → upto_time_at_After_hex_field_name c (λ s at d e t. Left s at d e (message1 s t) (topic1 s t d) (payload1 s t e))
unfolding message_at topic_kept payload_kept
left_time_at_After_hex_field_name c = rw c.number_field-time.ensures.value (record { message = refl; topic = refl; payload = refl })

left_time_at_After_number_field_qos : (c : After-number_field-qos) → upto_time_at_After_number_field_qos c (λ s at d e t. Left s at d e (message1 s t) (topic1 s t d) (payload1 s t e))
unfolding message_at topic_kept payload_kept
left_time_at_After_number_field_qos c = rw c.number_field-time.ensures.value (record { message = refl; topic = refl; payload = refl })

left_time_at_After_number_field_kind : (c : After-number_field-kind) → upto_time_at_After_number_field_kind c (λ s at d e t. Left s at d e (message1 s t) (topic1 s t d) (payload1 s t e))
unfolding message_at topic_kept payload_kept
left_time_at_After_number_field_kind c = rw c.number_field-time.ensures.value (record { message = refl; topic = refl; payload = refl })

left_time_at_After_word_field_clock : (c : After-word_field-clock) → upto_time_at_After_word_field_clock c (λ s at d e t. Left s at d e (message1 s t) (topic1 s t d) (payload1 s t e))
unfolding message_at topic_kept payload_kept
left_time_at_After_word_field_clock c = rw c.number_field-time.ensures.value (record { message = refl; topic = refl; payload = refl })

left_time : (c : After-number_field-time) → upto_time c (λ s at d e t. Left s at d e (message1 s t) (topic1 s t d) (payload1 s t e))
unfolding message_at topic_kept payload_kept
left_time c = rw c.number_field-time.ensures.value (record { message = refl; topic = refl; payload = refl })

left_clock_at_After_hex_field_data : (here : After-hex_field-data) → upto_clock_at_After_hex_field_data here (λ s at d e t c. Left s at d e (message2 s t c) (topic2 s c d) (payload2 s c e))
unfolding message1 topic1 payload1
left_clock_at_After_hex_field_data here = rw (eq-eqb _ _ here.if-time-ne0.false, ← here.word_field-clock.ensures.value) at (left_time_at_After_hex_field_data here)

left_clock_at_After_number_field_size : (here : After-number_field-size) → upto_clock_at_After_number_field_size here (λ s at d e t c. Left s at d e (message2 s t c) (topic2 s c d) (payload2 s c e))
unfolding message1 topic1 payload1
left_clock_at_After_number_field_size here = rw (eq-eqb _ _ here.if-time-ne0.false, ← here.word_field-clock.ensures.value) at (left_time_at_After_number_field_size here)

left_clock_at_After_hex_field_name : (here : After-hex_field-name) → upto_clock_at_After_hex_field_name here (λ s at d e t c. Left s at d e (message2 s t c) (topic2 s c d) (payload2 s c e))
unfolding message1 topic1 payload1
left_clock_at_After_hex_field_name here = rw (eq-eqb _ _ here.if-time-ne0.false, ← here.word_field-clock.ensures.value) at (left_time_at_After_hex_field_name here)

left_clock_at_After_number_field_qos : (here : After-number_field-qos) → upto_clock_at_After_number_field_qos here (λ s at d e t c. Left s at d e (message2 s t c) (topic2 s c d) (payload2 s c e))
unfolding message1 topic1 payload1
left_clock_at_After_number_field_qos here = rw (eq-eqb _ _ here.if-time-ne0.false, ← here.word_field-clock.ensures.value) at (left_time_at_After_number_field_qos here)

left_clock_at_After_number_field_kind : (here : After-number_field-kind) → upto_clock_at_After_number_field_kind here (λ s at d e t c. Left s at d e (message2 s t c) (topic2 s c d) (payload2 s c e))
unfolding message1 topic1 payload1
left_clock_at_After_number_field_kind here = rw (eq-eqb _ _ here.if-time-ne0.false, ← here.word_field-clock.ensures.value) at (left_time_at_After_number_field_kind here)

left_clock : (here : After-word_field-clock) → upto_clock here (λ s at d e t c. Left s at d e (message2 s t c) (topic2 s c d) (payload2 s c e))
unfolding message1 topic1 payload1
left_clock here = rw (eq-eqb _ _ here.if-time-ne0.false, ← here.word_field-clock.ensures.value) at (left_time_at_After_word_field_clock here)

left_type_at_After_hex_field_data : (here : After-hex_field-data) → upto_type_at_After_hex_field_data here (λ s at d e t c k. Left s at d e (message3 s t c k) (topic3 s k d) (payload3 s k e))
unfolding message2 topic2 payload2
left_type_at_After_hex_field_data here = rw (eq-eqb _ _ here.if-clock-ne0.false, ← here.number_field-kind.ensures.value) at (left_clock_at_After_hex_field_data here)

left_type_at_After_number_field_size : (here : After-number_field-size) → upto_type_at_After_number_field_size here (λ s at d e t c k. Left s at d e (message3 s t c k) (topic3 s k d) (payload3 s k e))
unfolding message2 topic2 payload2
left_type_at_After_number_field_size here = rw (eq-eqb _ _ here.if-clock-ne0.false, ← here.number_field-kind.ensures.value) at (left_clock_at_After_number_field_size here)

left_type_at_After_hex_field_name : (here : After-hex_field-name) → upto_type_at_After_hex_field_name here (λ s at d e t c k. Left s at d e (message3 s t c k) (topic3 s k d) (payload3 s k e))
unfolding message2 topic2 payload2
left_type_at_After_hex_field_name here = rw (eq-eqb _ _ here.if-clock-ne0.false, ← here.number_field-kind.ensures.value) at (left_clock_at_After_hex_field_name here)

left_type_at_After_number_field_qos : (here : After-number_field-qos) → upto_type_at_After_number_field_qos here (λ s at d e t c k. Left s at d e (message3 s t c k) (topic3 s k d) (payload3 s k e))
unfolding message2 topic2 payload2
left_type_at_After_number_field_qos here = rw (eq-eqb _ _ here.if-clock-ne0.false, ← here.number_field-kind.ensures.value) at (left_clock_at_After_number_field_qos here)

left_type : (here : After-number_field-kind) → upto_type here (λ s at d e t c k. Left s at d e (message3 s t c k) (topic3 s k d) (payload3 s k e))
unfolding message2 topic2 payload2
left_type here = rw (eq-eqb _ _ here.if-clock-ne0.false, ← here.number_field-kind.ensures.value) at (left_clock_at_After_number_field_kind here)

left_qos_at_After_hex_field_data : (here : After-hex_field-data) → upto_qos_at_After_hex_field_data here (λ s at d e t c k q. Left s at d e (message4 s t c k q) (topic4 s q d) (payload4 s q e))
unfolding message3 topic3 payload3
left_qos_at_After_hex_field_data here = rw (eq-eqb _ _ here.if-kind-ne0.false, ← here.number_field-qos.ensures.value) at (left_type_at_After_hex_field_data here)

left_qos_at_After_number_field_size : (here : After-number_field-size) → upto_qos_at_After_number_field_size here
    (λ s at d e t c k q. Left s at d e (message4 s t c k q) (topic4 s q d) (payload4 s q e))
unfolding message3 topic3 payload3
left_qos_at_After_number_field_size here = rw (eq-eqb _ _ here.if-kind-ne0.false, ← here.number_field-qos.ensures.value) at (left_type_at_After_number_field_size here)

left_qos_at_After_hex_field_name : (here : After-hex_field-name) → upto_qos_at_After_hex_field_name here (λ s at d e t c k q. Left s at d e (message4 s t c k q) (topic4 s q d) (payload4 s q e))
unfolding message3 topic3 payload3
left_qos_at_After_hex_field_name here = rw (eq-eqb _ _ here.if-kind-ne0.false, ← here.number_field-qos.ensures.value) at (left_type_at_After_hex_field_name here)

left_qos : (here : After-number_field-qos) → upto_qos here (λ s at d e t c k q. Left s at d e (message4 s t c k q) (topic4 s q d) (payload4 s q e))
unfolding message3 topic3 payload3
left_qos here = rw (eq-eqb _ _ here.if-kind-ne0.false, ← here.number_field-qos.ensures.value) at (left_type_at_After_number_field_qos here)

left_topic_at_After_hex_field_data : (here : After-hex_field-data) → upto_topic_at_After_hex_field_data here (λ s at d e t c k q n x. Left s at d e (message5 s t c k q n) x (payload5 s n e))
unfolding message4 topic4 payload4
left_topic_at_After_hex_field_data here = rw (eq-eqb _ _ here.if-qos-ne0.false, ← topic_is_at_After_hex_field_data here, ← here.hex_field-name.ensures.kept) at (left_qos_at_After_hex_field_data here)

left_topic_at_After_number_field_size : (here : After-number_field-size) → upto_topic_at_After_number_field_size here (λ s at d e t c k q n x. Left s at d e (message5 s t c k q n) x (payload5 s n e))
unfolding message4 topic4 payload4
left_topic_at_After_number_field_size here = rw
    (eq-eqb _ _ here.if-qos-ne0.false, ← topic_is_at_After_number_field_size here, ← here.hex_field-name.ensures.kept) at
    (left_qos_at_After_number_field_size here)

left_topic : (here : After-hex_field-name) → upto_topic here (λ s at d e t c k q n x. Left s at d e (message5 s t c k q n) x (payload5 s n e))
unfolding message4 topic4 payload4
left_topic here = rw (eq-eqb _ _ here.if-qos-ne0.false, ← topic_is here, ← here.hex_field-name.ensures.kept) at (left_qos_at_After_hex_field_name here)

left_size_at_After_hex_field_data : (here : After-hex_field-data) → upto_size_at_After_hex_field_data here (λ s at d e t c k q n x z. Left s at d e (message6 s t c k q n z) x (payload6 s z e))
unfolding message5 payload5
left_size_at_After_hex_field_data here = rw (eq-eqb _ _ here.if-name-ne0.false, ← here.number_field-size.ensures.value) at (left_topic_at_After_hex_field_data here)

left_size : (here : After-number_field-size) → upto_size here (λ s at d e t c k q n x z. Left s at d e (message6 s t c k q n z) x (payload6 s z e))
unfolding message5 payload5
left_size here = rw (eq-eqb _ _ here.if-name-ne0.false, ← here.number_field-size.ensures.value) at (left_topic_at_After_number_field_size here)

left_payload : (here : After-hex_field-data) → upto_payload here (λ s at d e t c k q n x z p y. Left s at d e (message7 t c k q n z p) x y)
unfolding message6 payload6
left_payload here = rw (eq-eqb _ _ here.if-size-ne0.false, ← payload_is here, ← here.hex_field-data.ensures.kept) at (left_size_at_After_hex_field_data here)

pub returns-then-time-ne0 : goal.returns-then-time-ne0
unfolding message1 topic1 payload1
returns-then-time-ne0 c = let h = ends (rw (ne_eqb _ _ c.if-time-ne0.true) at (left_time (goal.at.returns-then-time-ne0 c).After-number_field-time))
    c.message_stopped.ensures in record { value = h.0; within = h.1.0; topic = h.1.1.0; payload = h.1.1.1 }

pub returns-then-clock-ne0 : goal.returns-then-clock-ne0
unfolding message2 topic2 payload2
returns-then-clock-ne0 c = let h = ends
    (rw (ne_eqb _ _ c.if-clock-ne0.true) at (left_clock (goal.at.returns-then-clock-ne0 c).After-word_field-clock))
    c.message_stopped-then-clock-ne0.ensures in record { value = h.0; within = h.1.0; topic = h.1.1.0; payload = h.1.1.1 }

pub returns-then-kind-ne0 : goal.returns-then-kind-ne0
unfolding message3 topic3 payload3
returns-then-kind-ne0 c = let h = ends (rw (ne_eqb _ _ c.if-kind-ne0.true) at (left_type (goal.at.returns-then-kind-ne0 c).After-number_field-kind))
    c.message_stopped-then-kind-ne0.ensures in record { value = h.0; within = h.1.0; topic = h.1.1.0; payload = h.1.1.1 }

pub returns-then-qos-ne0 : goal.returns-then-qos-ne0
unfolding message4 topic4 payload4
returns-then-qos-ne0 c = let h = ends (rw (ne_eqb _ _ c.if-qos-ne0.true) at (left_qos (goal.at.returns-then-qos-ne0 c).After-number_field-qos))
    c.message_stopped-then-qos-ne0.ensures in record { value = h.0; within = h.1.0; topic = h.1.1.0; payload = h.1.1.1 }

pub returns-then-name-ne0 : goal.returns-then-name-ne0
unfolding message5 payload5
returns-then-name-ne0 c = let h = ends (rw (ne_eqb _ _ c.if-name-ne0.true) at (left_topic (goal.at.returns-then-name-ne0 c).After-hex_field-name))
    c.message_stopped-then-name-ne0.ensures in record { value = h.0; within = h.1.0; topic = h.1.1.0; payload = h.1.1.1 }

pub returns-then-size-ne0 : goal.returns-then-size-ne0
unfolding message6 payload6
returns-then-size-ne0 c = let h = ends (rw (ne_eqb _ _ c.if-size-ne0.true) at (left_size (goal.at.returns-then-size-ne0 c).After-number_field-size))
    c.message_stopped-then-size-ne0.ensures in record { value = h.0; within = h.1.0; topic = h.1.1.0; payload = h.1.1.1 }

pub returns-then-data-ne0 : goal.returns-then-data-ne0
unfolding message7
returns-then-data-ne0 c = let h = ends (rw (ne_eqb _ _ c.if-data-ne0.true) at (left_payload (goal.at.returns-then-data-ne0 c).After-hex_field-data))
    c.message_stopped-then-data-ne0.ensures in record { value = h.0; within = h.1.0; topic = h.1.1.0; payload = h.1.1.1 }

pub overflow_cast-result : goal.overflow_cast-result
overflow_cast-result c =
    let h = hex_fits _ _ _ 128 (topic_is (goal.at.overflow_cast-result c).After-hex_field-name) c.if-name-ne0.false in omega arith

pub overflow_cast-result-2 : goal.overflow_cast-result-2
overflow_cast-result-2 c =
    let h = number_fits _ _ _ 0 65535 c.number_field-size.ensures.value c.if-size-ne0.false in omega arith

pub overflow_cast-result-3 : goal.overflow_cast-result-3
overflow_cast-result-3 c =
    let h = hex_fits _ _ _ 256 (payload_is (goal.at.overflow_cast-result-3 c).After-hex_field-data) c.if-data-ne0.false in omega arith

pub returns : goal.returns
unfolding message7
returns c = let h = ends
    (rw (eq-eqb _ _ c.if-data-ne0.false, ← c.type_at.ensures, ← c.qos_at.ensures) at
    (left_payload (goal.at.returns c).After-hex_field-data)) refl in record { value = h.0; within = h.1.0; topic = h.1.1.0; payload = h.1.1.1 }
