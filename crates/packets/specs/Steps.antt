-- What is claimed of a packet's messages: whoever asks `read_packet` and then `message_at`, so often as it says, from the first step on and each time at the step that the call before handed back,
-- gets the messages of the packet, all of them and in their order.
-- Assumes nothing.
use Rattle.std.specs.Prelude.{Bool, true, List, [], ◌∷◌, ◌≡◌, ℕ, zero, suc, ◌*◌, ◌≤◌, length}
use Rattle.laws.specs.Lists.{every}
use Rattle.monitor.specs.Message.{type_number}
use Rattle.packets.specs.Bodies.{is_list}
use Rattle.packets.specs.Messages.{message_at, messages_at, ToldMessage}
use Rattle.packets.specs.Packet.{packet_at}

-- so many calls of `message_at`, from a step on
unfoldable pub stepped : ℕ → List ℕ → ℕ → ℕ → ℕ → Bool → List ToldMessage
stepped zero s place step now_us ok = []
stepped (suc k) s place step now_us ok =
    message_at s place step now_us ok ∷ stepped k s place (message_at s place step now_us ok).next now_us ok

-- it is a Subscribe or an Unsubscribe
abbrev pub is_listed : ToldMessage → Bool
is_listed m = is_list (type_number m.msg.packet_type)

pub record Steps : Type 0 where
  -- these are the packet's messages
  pub in_order :
      (s : List ℕ) (place now_us : ℕ) (ok : Bool) → (packet_at s place).number ≡ 0
      → stepped (packet_at s place).messages s place (packet_at s place).first now_us ok ≡ messages_at s place now_us ok
  -- there are as many as the packet says
  pub counted :
      (s : List ℕ) (place now_us : ℕ) (ok : Bool) → (packet_at s place).number ≡ 0
      → length (messages_at s place now_us ok) ≡ (packet_at s place).messages
  -- and there is one at least
  pub some : (s : List ℕ) (place : ℕ) → (packet_at s place).number ≡ 0 → 1 ≤ (packet_at s place).messages
  -- and no more than one for two bytes
  pub few : (s : List ℕ) (place : ℕ) → (packet_at s place).number ≡ 0 → (packet_at s place).messages * 2 ≤ (packet_at s place).length
  -- where there are several, each is a Subscribe or an Unsubscribe
  pub several :
      (s : List ℕ) (place now_us : ℕ) (ok : Bool) → (packet_at s place).number ≡ 0 → ((packet_at s place).messages ≡ 1 → ⊥)
      → every is_listed (messages_at s place now_us ok) ≡ true
