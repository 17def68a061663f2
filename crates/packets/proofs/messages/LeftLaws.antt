-- Laws for loops over a packet's messages: what is left of them at a step is `stepped`, all of them are good, and at the first step all are left. Assumes nothing.
use mathlib.Core.Bool.{Bool, true}
use mathlib.Core.List.{List, [], ◌∷◌, ◌++◌, map}
use mathlib.Core.Path.{◌≡◌, refl, sym, ap, subst, ◌∙◌}
use Prim.Native.Nat.{ℕ, zero, suc, ◌+◌, ◌-◌, ◌≤◌, ◌<◌}
use native.Mathlib.Numerals.{sub-one}
use native.Mathlib.Omega.{arith}
use lib.Dec.{eqb}
use lib.ListN.{drop}
use borrow.Author.Tests.{eqb-true}
use Rattle.laws.specs.Lists.{every}
use Rattle.laws.proofs.Tests.{both}
use Rattle.monitor.specs.Runs.{Call, Exact}
use Rattle.monitor.proofs.Replies.{AllExact}
use Rattle.packets.specs.Bodies.{pieces_of}
use Rattle.packets.specs.Header.{length_at, type_of, flags_of, body_from, body_in}
use Rattle.packets.specs.Messages.{sent_from, message_at, messages_of, messages_at, ToldMessage}
use Rattle.packets.specs.Packet.{packet_at, ToldPacket}
use Rattle.packets.specs.Steps.{stepped}
use Rattle.packets.specs.Taken.{call_of, calls_at, Within}
use Rattle.packets.specs.Piece.{ToldPiece}
use Rattle.packets.proofs.Steps.{steps, all_good, limited}
use Rattle.packets.proofs.Taken.{taken}

-- whoever lies within its packet lends exactly what its message uses
pub within_exact : (s : List ℕ) (place : ℕ) (m : ToldMessage) → Within s place m → Exact (call_of s m)
within_exact s place m w = (omega (arith, w.topic_long.0, w.topic_long.1), omega (arith, w.payload_long.0, w.payload_long.1))

module _ (s : List ℕ) (place now_us : ℕ) (ok : Bool) where
  -- so many messages from a step on
  abbrev pub left : ℕ → ℕ → List ToldMessage
  left k step = stepped k s place step now_us ok

  -- none of them is refused
  abbrev pub is_good : ToldMessage → Bool
  is_good m = eqb m.number 0

  abbrev pub Good : ℕ → ℕ → Type 0
  Good k step = every is_good (left k step) ≡ true

  one : (k step : ℕ) → 0 < k → left k step ≡ message_at s place step now_us ok ∷ left (k - 1) (message_at s place step now_us ok).next
  unfolding stepped
  one zero step h = absurd (omega arith)
  one (suc k) step h = rw sub-one

  -- the message at a step of which some are left
  module _ {k : ℕ} (step : ℕ) (h : 0 < k) {m : ToldMessage} (e : m ≡ message_at s place step now_us ok) where
    pub turn : left k step ≡ m ∷ left (k - 1) m.next
    turn = rw e (one k step h)

    pub good_both : Good k step → (is_good m ≡ true) × Good (k - 1) m.next
    unfolding every
    good_both g = both (is_good m) (every is_good (left (k - 1) m.next)) (rw turn at g)

    pub good_now : Good k step → Within s place m
    good_now g = rw e (taken.within s place step now_us ok (rw e at (eqb-true m.number 0 (good_both g).0)))

    pub good_next : Good k step → Good (k - 1) m.next
    good_next g = (good_both g).1

  -- the same in a loop over 0..n, of which i are done
  module _ {n i : ℕ} (step : ℕ) (h : i < n) {m : ToldMessage} (e : m ≡ message_at s place step now_us ok) where
    more : 0 < n - i
    more = omega arith

    one_less : n - i - 1 ≡ n - (i + 1)
    one_less = omega arith

    pub turn_for : left (n - i) step ≡ m ∷ left (n - (i + 1)) m.next
    turn_for = rw (turn step more e, one_less)

    pub taken_for : Good (n - i) step → m.number ≡ 0
    taken_for g = eqb-true m.number 0 (good_both step more e g).0

    pub within_for : Good (n - i) step → Within s place m
    within_for g = good_now step more e g

    pub good_for : Good (n - i) step → Good (n - (i + 1)) m.next
    good_for g = subst (λ (k : ℕ). Good k m.next) one_less (good_next step more e g)

  -- of none there is none
  pub none_left : {k : ℕ} (step : ℕ) → k ≡ 0 → left k step ≡ []
  unfolding stepped
  none_left step e = rw e

  module _ {p : ToldPacket} (e : p ≡ packet_at s place) (z : p.number ≡ 0) where
    -- at the first step all are left
    pub first-left : left p.messages p.first ≡ messages_at s place now_us ok
    first-left = rw e (steps.in_order s place now_us ok (rw e at z))

    pub first_good : Good p.messages p.first
    first_good = rw (e, steps.in_order s place now_us ok (rw e at z)) (all_good s place now_us ok)

    -- the same in a loop over 0..n
    none_done : p.messages - 0 ≡ p.messages
    none_done = omega arith

    pub first_left_for : left (p.messages - 0) p.first ≡ messages_at s place now_us ok
    first_left_for = rw none_done first-left

    pub first_good_for : Good (p.messages - 0) p.first
    first_good_for = rw none_done first_good

    pub first_few : p.messages ≤ 134217730
    first_few = rw e (limited s place (rw e at z))

  -- a packet of one message
  pub only_message : {p : ToldPacket} → p ≡ packet_at s place → p.number ≡ 0 → p.messages ≡ 1 → {m : ToldMessage} → m ≡ message_at s place p.first now_us ok
      → messages_at s place now_us ok ≡ m ∷ []
  unfolding stepped
  only_message {p} e z o g = rw g (sym (ap (λ (k : ℕ). left k p.first) (sym o) ∙ first-left e z))

  -- good ones lend exactly what they use
  left_exact : (k step : ℕ) → Good k step → AllExact (map (call_of s) (left k step))
  unfolding stepped
  left_exact zero step g = tt
  left_exact (suc k) step g =
      let h = good_both {k = suc k} step (omega arith) refl g in
      let m = message_at s place step now_us ok in
      (within_exact s place m (good_now {k = suc k} step (omega arith) refl g), left_exact k m.next (rw sub-one at h.1))

  -- so do the messages of a packet that is not refused
  pub calls_exact : (packet_at s place).number ≡ 0 → AllExact (calls_at s place now_us ok)
  calls_exact z = rw (← first-left refl z) (left_exact (packet_at s place).messages (packet_at s place).first (first_good refl z))

-- all calls of a list have a time
abbrev pub AllAt : ℕ → List Call → Type 0
AllAt t [] = Unit
AllAt t (c ∷ cs) = (c.msg.timestamp_us ≡ t) × AllAt t cs

pub at_join : (t : ℕ) (a b : List Call) → AllAt t a → AllAt t b → AllAt t (a ++ b)
at_join t [] b h g = g
at_join t (c ∷ a) b h g = (h.0, at_join t a b h.1 g)

-- those of a packet have the caller's
pieces_at : (s : List ℕ) (kind long base now_us : ℕ) (ok : Bool) (ps : List ToldPiece) → AllAt now_us (map (call_of s) (map (sent_from kind long base now_us ok) ps))
pieces_at s kind long base now_us ok [] = tt
pieces_at s kind long base now_us ok (p ∷ ps) = (refl, pieces_at s kind long base now_us ok ps)

pub calls_at_lem : (s : List ℕ) (place now_us : ℕ) (ok : Bool) → AllAt now_us (calls_at s place now_us ok)
unfolding messages_of
calls_at_lem s place now_us ok =
    let b : List ℕ = drop place s in
    pieces_at s (type_of b) (length_at b 1).value (place + body_from b) now_us ok (pieces_of (type_of b) (flags_of b) (body_in b))
