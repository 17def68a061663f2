-- What the lent buffers of a group hold at exit, for whoever goes on from them: where the group was read they begin with its bytes
-- (`topic_part`, `payload_part`), and they are as long as before. Assumes nothing.
use Prim.Native.Nat.{ℕ, ◌≤◌}
use mathlib.Core.Path.{◌≡◌, ◌∙◌}
use mathlib.Core.List.{List}
use native.Mathlib.Omega.{arith}
use lib.ListN.{length, take}
use borrow.Author.Tests.{eq-eqb}
use Rattle.slices.specs.Bytes.{bytes}
use Rattle.lines.specs.Field.{hex_kept}
use Rattle.lines.proofs.read.KeptLaws.{kept_long}
use Rattle.trace.specs.Groups.{message7, message_at, topic_in, topic1, topic2, topic3, topic4, topic_kept}
use Rattle.trace.specs.Groups.{payload_in, payload1, payload2, payload3, payload4, payload5, payload6, payload_kept}
use Rattle.trace.specs.declared.groups.MessageLines.{MessageLines}
use Rattle.forms.proofs.LineBounds.{kept}
use Rattle.trace.proofs.groups.GroupLaws.{message_cases, message_within, AllRead, qos_of, size_of}

module _ (s : List ℕ) (at : ℕ) (d : List ℕ) where
  module _ (r : AllRead s at) where
    topic_kept_lem : topic_kept s at d ≡ hex_kept s (qos_of s at).next (bytes "topic=") d
    unfolding topic_kept topic1 topic2 topic3 topic4
    topic_kept_lem = rw (eq-eqb _ _ r.time, eq-eqb _ _ r.clock, eq-eqb _ _ r.type, eq-eqb _ _ r.qos)

    payload_kept_lem : payload_kept s at d ≡ hex_kept s (size_of s at).next (bytes "payload=") d
    unfolding payload_kept payload1 payload2 payload3 payload4 payload5 payload6
    payload_kept_lem = rw (eq-eqb _ _ r.time, eq-eqb _ _ r.clock, eq-eqb _ _ r.type, eq-eqb _ _ r.qos, eq-eqb _ _ r.topic, eq-eqb _ _ r.size)

  topic_bytes : length d ≡ 128 → (message_at s at).number ≡ 0 → take (message_at s at).msg.topic_len (topic_kept s at d) ≡ topic_in s (message_at s at)
  unfolding message7
  topic_bytes l =
      message_cases s at (λ (g : MessageLines). g.number ≡ 0 → take g.msg.topic_len (topic_kept s at d) ≡ topic_in s g)
      (λ f k w h z e. absurd (z e))
      (λ r e. rw (eq-eqb _ _ r.payload, topic_kept_lem r) (kept s (qos_of s at).next (bytes "topic=") d l r.topic))

  payload_bytes : length d ≡ 256 → (message_at s at).number ≡ 0 → take (message_at s at).msg.payload_inspectable_len (payload_kept s at d) ≡ payload_in s (message_at s at)
  unfolding message7
  payload_bytes l =
      message_cases s at (λ (g : MessageLines). g.number ≡ 0 → take g.msg.payload_inspectable_len (payload_kept s at d) ≡ payload_in s g)
      (λ f k w h z e. absurd (z e))
      (λ r e. rw (eq-eqb _ _ r.payload, payload_kept_lem r) (kept s (size_of s at).next (bytes "payload=") d l r.payload))

  -- all lines of a message that was read were read
  all_read : (message_at s at).number ≡ 0 → AllRead s at
  all_read = message_cases s at (λ (g : MessageLines). g.number ≡ 0 → AllRead s at) (λ f k w h z e. absurd (z e)) (λ r e. r)

  topic_long : (message_at s at).number ≡ 0 → length (topic_kept s at d) ≡ length d
  topic_long z = rw (topic_kept_lem (all_read z)) (kept_long s (qos_of s at).next (bytes "topic=") d)

  payload_long : (message_at s at).number ≡ 0 → length (payload_kept s at d) ≡ length d
  payload_long z = rw (payload_kept_lem (all_read z)) (kept_long s (size_of s at).next (bytes "payload=") d)

-- the topic of a message that was read is the first bytes of its buffer, which is as long as before, and so is its payload
module _ (s : List ℕ) (at : ℕ) {r : MessageLines} (d : List ℕ) {e : List ℕ} (q : r ≡ message_at s at) (z : r.number ≡ 0) where
  pub topic_part : length d ≡ 128 → e ≡ topic_kept s at d → (take r.msg.topic_len e ≡ topic_in s r) × (r.msg.topic_len ≤ length e) × (length e ≡ 128)
  topic_part l k =
      let w = message_within s at q in
      let long : length e ≡ 128 = rw k (topic_long s at d (rw q at z) ∙ l) in
      (rw (k, q) (topic_bytes s at d l (rw q at z)), omega (arith, w.topic_long), long)

  pub payload_part : length d ≡ 256 → e ≡ payload_kept s at d
      → (take r.msg.payload_inspectable_len e ≡ payload_in s r) × (r.msg.payload_inspectable_len ≤ length e) × (length e ≡ 256)
  payload_part l k =
      let w = message_within s at q in
      let long : length e ≡ 256 = rw k (payload_long s at d (rw q at z) ∙ l) in
      (rw (k, q) (payload_bytes s at d l (rw q at z)), omega (arith, w.payload_long), long)
