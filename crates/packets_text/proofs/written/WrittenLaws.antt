-- Laws of a packet's lines: the loops over its messages, and each way through the answer. Assumes nothing.
use mathlib.Core.Bool.{Bool}
use mathlib.Core.List.{List, [], ◌++◌}
use mathlib.Core.Path.{◌≡◌, ap, ◌∙◌}
use Prim.Native.Nat.{ℕ, ◌+◌, ◌-◌, ◌≤◌, ◌<◌}
use lib.ListN.{length, length-append}
use lib.Seq.{sets}
use borrow.Author.Tests.{ne_eqb, le-leb, lt-leb}
use Rattle.packets.specs.Messages.{message_at, ToldMessage}
use Rattle.packets.specs.Packet.{packet_at, ToldPacket}
use Rattle.packets.proofs.messages.LeftLaws.{left, turn_for, none_left, first-left, first_left_for}
use Rattle.packets_text.specs.PacketText.{text_of, texts_of, packet_text, lines_refusal, no_lines, lines_end, lines_kept}

module _ (s : List ℕ) (place now_us : ℕ) (ok : Bool) where
  -- the lines of the message at a step, of which `i` of `n` are done
  module _ {n i : ℕ} (step : ℕ) (h : i < n) {m : ToldMessage} (e : m ≡ message_at s place step now_us ok) where
    pub turn_text : texts_of s (left s place now_us ok (n - i) step) ≡ text_of s m ++ texts_of s (left s place now_us ok (n - (i + 1)) m.next)
    unfolding texts_of
    turn_text = rw (turn_for s place now_us ok step h e)

    pub turn_length : length (texts_of s (left s place now_us ok (n - i) step)) ≡ length (text_of s m) + length (texts_of s (left s place now_us ok (n - (i + 1)) m.next))
    turn_length = ap length turn_text ∙ length-append (text_of s m) (texts_of s (left s place now_us ok (n - (i + 1)) m.next))

  -- of none there are no lines
  pub none_text : {k : ℕ} (step : ℕ) → k ≡ 0 → texts_of s (left s place now_us ok k step) ≡ []
  unfolding texts_of
  none_text step e = rw (none_left s place now_us ok step e)

  module _ {p : ToldPacket} (e : p ≡ packet_at s place) (z : p.number ≡ 0) where
    -- at the first step all are left
    pub first_text : texts_of s (left s place now_us ok p.messages p.first) ≡ packet_text s place now_us ok
    first_text = ap (texts_of s) (first-left s place now_us ok e z)

    pub first_texts : texts_of s (left s place now_us ok (p.messages - 0) p.first) ≡ packet_text s place now_us ok
    first_texts = ap (texts_of s) (first_left_for s place now_us ok e z)

  -- each way through the answer
  module _ {p : ToldPacket} (e : p ≡ packet_at s place) where
    pub refused_packet : (p.number ≡ 0 → ⊥) → (room : ℕ) → lines_refusal s place now_us ok room ≡ p.number
    unfolding lines_refusal
    refused_packet z room = rw (← e, ne_eqb _ 0 z)

    module _ (z : p.number ≡ 0) (room : ℕ) where
      pub refused_room : room < length (packet_text s place now_us ok) → lines_refusal s place now_us ok room ≡ 28
      unfolding lines_refusal
      refused_room h = rw (← e, z, lt-leb _ _ h)

      pub refused_none : length (packet_text s place now_us ok) ≤ room → lines_refusal s place now_us ok room ≡ 0
      unfolding lines_refusal
      refused_none h = rw (← e, z, le-leb _ _ h)

  module _ (d : List ℕ) {n : ℕ} (r : lines_refusal s place now_us ok (length d) ≡ n) where
    pub end_refused : (n ≡ 0 → ⊥) → (no_lines n ≡ lines_end s place now_us ok (length d)) × (d ≡ lines_kept s place now_us ok d)
    unfolding lines_end lines_kept
    end_refused z = (rw (r, ne_eqb _ 0 z), rw (r, ne_eqb _ 0 z))

  module _ (d : List ℕ) (r : lines_refusal s place now_us ok (length d) ≡ 0) where
    pub end_whole : {n : ℕ} → n ≡ length (packet_text s place now_us ok) → record { number = 0; line = 0; length = n } ≡ lines_end s place now_us ok (length d)
    unfolding lines_end
    end_whole l = rw (r, l)

    pub kept_whole : sets d 0 (packet_text s place now_us ok) ≡ lines_kept s place now_us ok d
    unfolding lines_kept
    kept_whole = rw r
