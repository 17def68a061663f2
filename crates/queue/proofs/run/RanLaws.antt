-- How the run's definition goes from packet to packet: at the end of the bytes it is whole, a packet that is refused ends it, any other is done and the run goes on behind it. And what the records of
-- two lists of messages are. Assumes nothing.
use mathlib.Core.Bool.{false, cond}
use mathlib.Core.List.{List, [], ◌∷◌, ◌++◌, append_assoc}
use mathlib.Core.Path.{◌≡◌, refl, sym, ap, ◌∙◌}
use Prim.Native.Nat.{ℕ, suc, ◌+◌, ◌-◌, ◌≤◌, ◌<◌}
use native.Mathlib.Numerals.{add-one}
use native.Mathlib.Omega.{arith}
use lib.Dec.{eqb, leb}
use lib.ListN.{length}
use borrow.Author.Tests.{eqb-true, eqb-false, ne_eqb, le-leb, lt-leb, leb-true, leb-false}
use Rattle.laws.proofs.Cases.{by, whichever}
use Rattle.laws.proofs.Fuel.{fuel}
use Rattle.monitor.specs.Runs.{Call, Reply, Monitor, shipped, after_by, replies_by}
use Rattle.monitor.specs.State.{well_formed}
use Rattle.monitor.specs.declared.state.MqttMonitor.{MqttMonitor}
use Rattle.monitor.proofs.Replies.{replies_two}
use Rattle.trace.specs.AsRun.{records_text}
use Rattle.trace.specs.Record.{record_text}
use Rattle.packets.specs.Packet.{ToldPacket, first_of, packet_at}
use Rattle.packets.proofs.packet.AcceptedLaws.{packet_is}
use Rattle.packets.proofs.packet.PacketLaws.{number_known}
use Rattle.queue.specs.Queue.{Wake, calls_in, records_of, queue_refusal, Ran, ends_at, ran_from, ran_of}

-- the records of two lists of replies
records_two : (n : ℕ) (a b : List Reply) → records_text n (a ++ b) ≡ records_text n a ++ records_text (n + length a) b
unfolding records_text
records_two n [] b = let e : n ≡ n + 0 = omega arith in ap (λ (k : ℕ). records_text k b) e
records_two n (r ∷ a) b =
    let e : n + 1 + length a ≡ n + length (r ∷ a) = omega arith in
    let first : List ℕ = record_text n r.given.result in
    ap (λ (t : List ℕ). first ++ t) (records_two (n + 1) a b ∙ ap (λ (k : ℕ). records_text (n + 1) a ++ records_text k b) e)
    ∙ sym (append_assoc first (records_text (n + 1) a) (records_text (n + length (r ∷ a)) b))

replies_long : (f : Monitor) (m : MqttMonitor) (cs : List Call) → length (replies_by f m cs) ≡ length cs
unfolding replies_by
replies_long f m [] = refl
replies_long f m (c ∷ cs) = ap suc (replies_long f (f m c).monitor cs)

-- the records of messages that are done after others: they are numbered on, from the state that those left
pub records_join : (m : MqttMonitor) (n : ℕ) (a b : List Call)
    → records_text n (replies_by shipped m (a ++ b)) ≡ records_text n (replies_by shipped m a) ++ records_text (n + length a) (replies_by shipped (after_by shipped m a) b)
records_join m n a b =
    let rest : List Reply = replies_by shipped (after_by shipped m a) b in
    ap (records_text n) (replies_two shipped m a b) ∙ records_two n (replies_by shipped m a) rest
    ∙ ap (λ (k : ℕ). records_text n (replies_by shipped m a) ++ records_text (n + k) rest) (replies_long shipped m a)

-- the first of two numbers: none, the one in front, or the one behind it
first_none : (n k : ℕ) → first_of n k ≡ 0 → (n ≡ 0) × (k ≡ 0)
first_none n k e = by (eqb n 0) (λ t. (eqb-true _ _ t, rw t at e)) (λ t. absurd (eqb-false _ _ t (rw t at e)))

first_refuses : (n k : ℕ) → (n ≡ 0 → ⊥) → first_of n k ≡ n
first_refuses n k z = rw (ne_eqb n 0 z)

second_refuses : (n k : ℕ) → n ≡ 0 → first_of n k ≡ k
second_refuses n k z = rw z

module _ (m : MqttMonitor) (w : Wake) where
  -- 10 before everything
  pub formless : well_formed m ≡ false → ran_of m w ≡ ends_at 10 0 []
  unfolding ran_of
  formless f = rw f

  -- 28, where the records up to the packet at a place do not fit
  abbrev room_number : ℕ → List Call → ℕ
  room_number place sent = cond (leb (length (records_of m (sent ++ calls_in w place))) w.room) 0 28

  -- a packet that is not refused is one of request C-11's
  pub packet_good : (place : ℕ) (sent : List Call) → queue_refusal m w place sent ≡ 0 → (packet_at w.bytes place).number ≡ 0
  unfolding queue_refusal
  packet_good place sent z = (first_none (packet_at w.bytes place).number (room_number place sent) z).0

  -- and its records fit
  pub room_good : (place : ℕ) (sent : List Call) → queue_refusal m w place sent ≡ 0 → length (records_of m (sent ++ calls_in w place)) ≤ w.room
  unfolding queue_refusal
  room_good place sent z =
      let n = (first_none (packet_at w.bytes place).number (room_number place sent) z).1 in
      by (leb (length (records_of m (sent ++ calls_in w place))) w.room) (leb-true _ _) (λ f. absurd (omega (arith, rw f at n)))

  -- so the run goes on behind it
  pub further : (place : ℕ) (sent : List Call) → queue_refusal m w place sent ≡ 0
      → (place + 2 ≤ place + (packet_at w.bytes place).length) × (place + (packet_at w.bytes place).length ≤ length w.bytes)
  further place sent z =
      let i = (packet_is w.bytes place refl).1 in
      let g = packet_good place sent z in
      (omega (arith, i.some g), i.inside g)

  enough_turns : (k j place : ℕ) (sent : List Call) → length w.bytes - place < k → length w.bytes - place < j → ran_from k m w place sent ≡ ran_from j m w place sent
  unfolding ran_from
  enough_turns k j place sent h g =
      fuel {S = ℕ × List Call} (λ p. length w.bytes - p.0) (λ k p. ran_from k m w p.0 p.1)
      (λ k j p rec.
      by (leb (length w.bytes) p.0) (λ t. rw t)
      (λ t.
      let l : p.0 < length w.bytes = leb-false _ _ t in
      by (eqb (queue_refusal m w p.0 p.1) 0)
      (λ u.
      let f = further p.0 p.1 (eqb-true _ _ u) in
      rw (t, u, rec (p.0 + (packet_at w.bytes p.0).length, p.1 ++ calls_in w p.0) (omega (arith, f.0, f.1, l))))
      (λ u. rw (t, u))))
      k j (place, sent) h g

  -- the run from a place on
  abbrev pub left : ℕ → List Call → Ran
  left place sent = ran_from (length w.bytes + 1) m w place sent

  more : (place : ℕ) (sent : List Call) → left place sent ≡ ran_from (suc (length w.bytes)) m w place sent
  more place sent = ap (λ (k : ℕ). ran_from k m w place sent) (add-one (length w.bytes))

  none : (k place : ℕ) (sent : List Call) → length w.bytes ≤ place → ran_from (suc k) m w place sent ≡ ends_at 0 place sent
  unfolding ran_from
  none k place sent h = rw (le-leb _ _ h)

  stops : (k place : ℕ) (sent : List Call) {number : ℕ} → place < length w.bytes → queue_refusal m w place sent ≡ number → (number ≡ 0 → ⊥)
      → ran_from (suc k) m w place sent ≡ ends_at number place sent
  unfolding ran_from
  stops k place sent h e z = rw (lt-leb _ _ h, e, ne_eqb _ _ z)

  turn : (k place : ℕ) (sent : List Call) → place < length w.bytes → queue_refusal m w place sent ≡ 0
      → ran_from (suc k) m w place sent ≡ ran_from k m w (place + (packet_at w.bytes place).length) (sent ++ calls_in w place)
  unfolding ran_from
  turn k place sent h e = rw (lt-leb _ _ h, e)

  -- at the end of the bytes it is whole
  pub left_end : (place : ℕ) (sent : List Call) → length w.bytes ≤ place → left place sent ≡ ends_at 0 place sent
  left_end place sent h = more place sent ∙ none (length w.bytes) place sent h

  -- what is refused ends it
  pub left_stop : (place : ℕ) (sent : List Call) {number : ℕ} → place < length w.bytes → queue_refusal m w place sent ≡ number → (number ≡ 0 → ⊥)
      → left place sent ≡ ends_at number place sent
  left_stop place sent h e z = more place sent ∙ stops (length w.bytes) place sent h e z

  -- else it goes on behind the packet
  pub left_turn : (place : ℕ) (sent : List Call) → place < length w.bytes → queue_refusal m w place sent ≡ 0
      → left place sent ≡ left (place + (packet_at w.bytes place).length) (sent ++ calls_in w place)
  left_turn place sent h e =
      let f = further place sent e in
      more place sent ∙ turn (length w.bytes) place sent h e
      ∙ enough_turns (length w.bytes) (length w.bytes + 1) (place + (packet_at w.bytes place).length) (sent ++ calls_in w place) (omega (arith, f.0, h)) (omega (arith, f.0, h))

  -- what refuses a packet, by what was read of it and by its records
  module _ (place : ℕ) (sent : List Call) {p : ToldPacket} (e : p ≡ packet_at w.bytes place) where
    pub refused_packet : (p.number ≡ 0 → ⊥) → queue_refusal m w place sent ≡ p.number
    unfolding queue_refusal
    refused_packet z = rw e (first_refuses (packet_at w.bytes place).number (room_number place sent) (rw e at z))

    module _ (z : p.number ≡ 0) where
      pub refused_room : w.room < length (records_of m (sent ++ calls_in w place)) → queue_refusal m w place sent ≡ 28
      unfolding queue_refusal
      refused_room h = second_refuses (packet_at w.bytes place).number (room_number place sent) (rw e at z) ∙ rw (lt-leb _ _ h)

      pub refused_none : length (records_of m (sent ++ calls_in w place)) ≤ w.room → queue_refusal m w place sent ≡ 0
      unfolding queue_refusal
      refused_none h = second_refuses (packet_at w.bytes place).number (room_number place sent) (rw e at z) ∙ rw (le-leb _ _ h)

  -- and what refuses it otherwise than by 28 is its own number
  pub packet_refuses : (place : ℕ) (sent : List Call) {number : ℕ} → queue_refusal m w place sent ≡ number → (number ≡ 28 → ⊥) → (number ≡ 0 → ⊥)
      → (packet_at w.bytes place).number ≡ number
  unfolding queue_refusal
  packet_refuses place sent e r z =
      by (eqb (packet_at w.bytes place).number 0)
      (λ t.
      by (leb (length (records_of m (sent ++ calls_in w place))) w.room) (λ u. absurd (z (sym (rw (t, u) at e)))) (λ u. absurd (r (sym (rw (t, u) at e)))))
      (λ t. rw t at e)

  -- what is refused by 28 is a packet with which nothing is wrong, but for the room
  pub packet_full : (place : ℕ) (sent : List Call) → queue_refusal m w place sent ≡ 28
      → ((packet_at w.bytes place).number ≡ 0) × (w.room < length (records_of m (sent ++ calls_in w place)))
  unfolding queue_refusal
  packet_full place sent e =
      let none_28 = number_known (λ n. n ≡ 28 → ⊥) (λ x. omega arith) (λ x. omega arith) (λ x. omega arith) (λ x. omega arith) w.bytes place in
      by (eqb (packet_at w.bytes place).number 0)
      (λ t.
      by (leb (length (records_of m (sent ++ calls_in w place))) w.room) (λ u. absurd (omega (arith, rw (t, u) at e))) (λ u. (eqb-true _ _ t, leb-false _ _ u)))
      (λ t. absurd (none_28 (rw t at e)))

  -- the numbers that there are
  pub refusal_known : (P : ℕ → Type 0) → P 0 → P 28 → P 31 → P 32 → P 33 → (place : ℕ) (sent : List Call) → P (queue_refusal m w place sent)
  unfolding queue_refusal
  refusal_known P none full missing breach long place sent =
      whichever P (eqb (packet_at w.bytes place).number 0) (whichever P (leb (length (records_of m (sent ++ calls_in w place))) w.room) none full)
      (number_known P none missing breach long w.bytes place)
