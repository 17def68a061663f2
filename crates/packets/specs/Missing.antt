-- What is claimed of number 31 (request C-11: "exactly when bytes are missing"). The bytes that a call is lent may be the beginning of what a client sends. An answer that is not 31 stays as it is
-- whatever follows; and one that is 31 becomes another one when the bytes that are missing are there.
-- Assumes nothing.
use Rattle.std.specs.Prelude.{Bool, false, List, ◌++◌, ◌≡◌, ℕ, ◌+◌, ◌≤◌, ◌<◌, length}
use Rattle.packets.specs.Header.{length_at, body_from, size_of}
use Rattle.packets.specs.Messages.{message_at}
use Rattle.packets.specs.Packet.{packet_refusal, packet_at}

pub record Missing : Type 0 where
  -- a packet that is not 31 is the same before any other bytes: nothing behind its end is looked at
  pub settled : (s t : List ℕ) (place : ℕ) → ((packet_at s place).number ≡ 31 → ⊥) → packet_at (s ++ t) place ≡ packet_at s place
  -- and so is the message at any of its steps
  pub kept :
      (s t : List ℕ) (place step now_us : ℕ) (ok : Bool) → ((packet_at s place).number ≡ 31 → ⊥)
      → message_at (s ++ t) place step now_us ok ≡ message_at s place step now_us ok
  -- where the bytes end before or within the length field it is 31
  pub cut : (s : List ℕ) → (length_at s 1).over ≡ false → length s < body_from s → packet_refusal s ≡ 31
  -- where a length field of at most four bytes is there, 31 means that with what follows there are fewer bytes than it says
  pub awaited :
      (s t : List ℕ) → (length_at s 1).over ≡ false → body_from s ≤ length s
      → (packet_refusal (s ++ t) ≡ 31 → length s + length t < size_of s) × (length s + length t < size_of s → packet_refusal (s ++ t) ≡ 31)
  -- where so many bytes are there, no packet is 31
  pub enough : (s : List ℕ) (place : ℕ) → place + 268435460 ≤ length s → (packet_at s place).number ≡ 31 → ⊥
