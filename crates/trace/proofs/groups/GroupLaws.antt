-- What holds of every group of lines, on its definition. A group stopped at a refused line or was read whole: `opening_cases` and `message_cases`
-- go by these cases. So it lies in its text, its parts are as long as it says (`opening_within`, `message_within`), and one that was read takes
-- at least the bytes of its keys and LFs: 16 for an opening, 44 for a message (`opening_further`, `message_further`). Assumes nothing.
use Prim.Native.Nat.{ℕ, ◌+◌, ◌≤◌}
use mathlib.Core.Path.{◌≡◌}
use mathlib.Core.List.{List}
use native.Mathlib.Omega.{arith}
use borrow.Author.Tests.{eq-eqb}
use Rattle.slices.specs.Bytes.{bytes}
use Rattle.lines.specs.Field.{number_field, word_field}
use Rattle.lines.specs.ReadHex.{unhex}
use Rattle.lines.specs.declared.read.Field.{Field}
use Rattle.trace.specs.Groups.{opening_stopped, opening1, opening2, opening_of, OpeningIn}
use Rattle.trace.specs.Groups.{message_stopped, message1, message2, message3, message4, message5, message6, message7, message_at, MessageIn}
use Rattle.trace.specs.Groups.{at_line, clock_line, type_line, qos_line, topic_line, size_line, payload_line}
use Rattle.trace.specs.declared.groups.MessageLines.{MessageLines}
use Rattle.trace.specs.declared.groups.OpeningLines.{OpeningLines}
use Rattle.forms.proofs.LineBounds.{Answer, either, number_lies, word_lies, hex_lies, number-value, hex_value}

module _ (s : List ℕ) where
  -- the lines of an opening
  abbrev pub default_of : Field
  default_of = word_field s 0 (bytes "default=") (bytes "allow|block")

  abbrev pub rules_of : Field
  rules_of = number_field s default_of.next (bytes "rules=") 0 32

  pub opening_cases : (P : OpeningLines → Type 0)
      → ((f : Field) (k : ℕ) → Answer s f → k ≤ 1 → (f.number ≡ 0 → ⊥) → P (opening_stopped f k))
      → (default_of.number ≡ 0 → rules_of.number ≡ 0 → P (opening2 default_of rules_of)) → P (opening_of s)
  unfolding opening_of opening1 opening2
  opening_cases P stop read =
      either P default_of
      (λ d. either P rules_of (λ r. rw (eq-eqb _ _ r) at (read d r)) (stop rules_of 1 (number_lies s default_of.next (bytes "rules=") 0 32).answer (omega arith)))
      (stop default_of 0 (word_lies s 0 (bytes "default=") (bytes "allow|block")).answer (omega arith))

  pub opening_within : {o : OpeningLines} → o ≡ opening_of s → OpeningIn s o
  unfolding opening2
  opening_within e =
      rw e
      (opening_cases (OpeningIn s) (λ f k w h z. record { after = w.within.after; line = h; known = w.known; count = omega arith })
      (λ d r.
      rw (eq-eqb _ _ r)
      (record {
        after = (number_lies s default_of.next (bytes "rules=") 0 32).answer.within.after;
        line = omega arith;
        known = omega arith;
        count = number-value s default_of.next (bytes "rules=") 0 32 r;
      })))

  -- an opening that was read lies at least the bytes of its keys and LFs further on
  pub opening_further : (opening_of s).number ≡ 0 → 16 ≤ (opening_of s).next
  unfolding opening2
  opening_further =
      opening_cases (λ (o : OpeningLines). o.number ≡ 0 → 16 ≤ o.next) (λ f k w h z e. absurd (z e))
      (λ d r e.
      let a = (word_lies s 0 (bytes "default=") (bytes "allow|block")).further d in
      let b = (number_lies s default_of.next (bytes "rules=") 0 32).further r in
      rw (eq-eqb _ _ r) (omega arith))

module _ (s : List ℕ) (at : ℕ) where
  -- the lines of a message
  abbrev pub time_of : Field
  time_of = at_line s at

  abbrev pub clock_of : Field
  clock_of = clock_line s time_of

  abbrev pub type_of : Field
  type_of = type_line s clock_of

  abbrev pub qos_of : Field
  qos_of = qos_line s type_of

  abbrev pub topic_of : Field
  topic_of = topic_line s qos_of

  abbrev pub size_of : Field
  size_of = size_line s topic_of

  abbrev pub payload_of : Field
  payload_of = payload_line s size_of

  -- all of them were read
  pub record AllRead : Type 0 where
    pub time : time_of.number ≡ 0
    pub clock : clock_of.number ≡ 0
    pub type : type_of.number ≡ 0
    pub qos : qos_of.number ≡ 0
    pub topic : topic_of.number ≡ 0
    pub size : size_of.number ≡ 0
    pub payload : payload_of.number ≡ 0

  pub message_cases : (P : MessageLines → Type 0)
      → ((f : Field) (k : ℕ) → Answer s f → k ≤ 6 → (f.number ≡ 0 → ⊥) → P (message_stopped f k))
      → (AllRead → P (message7 time_of clock_of type_of qos_of topic_of size_of payload_of)) → P (message_at s at)
  unfolding message_at message1 message2 message3 message4 message5 message6 message7
  message_cases P stop read =
      either P time_of
      (λ a.
      either P clock_of
      (λ b.
      either P type_of
      (λ c.
      either P qos_of
      (λ d.
      either P topic_of
      (λ e.
      either P size_of
      (λ f.
      either P payload_of
      (λ g. rw (eq-eqb _ _ g) at (read (record { time = a; clock = b; type = c; qos = d; topic = e; size = f; payload = g })))
      (stop payload_of 6 (hex_lies s size_of.next (bytes "payload=") 256).answer (omega arith)))
      (stop size_of 5 (number_lies s topic_of.next (bytes "size=") 0 65535).answer (omega arith)))
      (stop topic_of 4 (hex_lies s qos_of.next (bytes "topic=") 128).answer (omega arith)))
      (stop qos_of 3 (number_lies s type_of.next (bytes "qos=") 0 2).answer (omega arith)))
      (stop type_of 2 (number_lies s clock_of.next (bytes "type=") 1 15).answer (omega arith)))
      (stop clock_of 1 (word_lies s time_of.next (bytes "clock=") (bytes "ok|bad")).answer (omega arith)))
      (stop time_of 0 (number_lies s at (bytes "at=") 0 18446744073709551615).answer (omega arith))

  pub message_within : {g : MessageLines} → g ≡ message_at s at → MessageIn s g
  unfolding message7 unhex
  message_within e =
      rw e
      (message_cases (MessageIn s)
      (λ f k w h z.
      record {
        after = w.within.after;
        line = h;
        known = w.known;
        topic = (omega arith, omega arith);
        payload = (omega arith, omega arith);
        topic_long = (omega arith, omega arith);
        payload_long = (omega arith, omega arith);
      })
      (λ r.
      let t = (hex_lies s qos_of.next (bytes "topic=") 128).answer.within in
      let p = (hex_lies s size_of.next (bytes "payload=") 256).answer.within in
      rw (eq-eqb _ _ r.payload)
      (record {
        after = p.after;
        line = omega arith;
        known = omega arith;
        topic = (t.ordered, t.inside);
        payload = (p.ordered, p.inside);
        topic_long = hex_value s qos_of.next (bytes "topic=") 128 r.topic;
        payload_long = hex_value s size_of.next (bytes "payload=") 256 r.payload;
      })))

  -- a message that was read lies at least the bytes of its keys and LFs further on
  pub message_further : (message_at s at).number ≡ 0 → at + 44 ≤ (message_at s at).next
  unfolding message7
  message_further =
      message_cases (λ (g : MessageLines). g.number ≡ 0 → at + 44 ≤ g.next) (λ f k w h z e. absurd (z e))
      (λ r e.
      let a = (number_lies s at (bytes "at=") 0 18446744073709551615).further r.time in
      let b = (word_lies s time_of.next (bytes "clock=") (bytes "ok|bad")).further r.clock in
      let c = (number_lies s clock_of.next (bytes "type=") 1 15).further r.type in
      let d = (number_lies s type_of.next (bytes "qos=") 0 2).further r.qos in
      let f = (hex_lies s qos_of.next (bytes "topic=") 128).further r.topic in
      let g = (number_lies s topic_of.next (bytes "size=") 0 65535).further r.size in
      let h = (hex_lies s size_of.next (bytes "payload=") 256).further r.payload in
      rw (eq-eqb _ _ r.payload) (omega arith))
