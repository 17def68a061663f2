-- Two calls one after the other are one (specs/Joined.antt). One call on all of the bytes does each packet that the first did, since bytes that follow change none, and then each that the second
-- does, since bytes before them do not matter either; where a packet of theirs did not fit it would end by 28, which it does not. And it ends where the second ends, by the same number.
-- Assumes nothing.
use mathlib.Core.Bool.{true, false}
use mathlib.Core.List.{List, [], ◌++◌, append_assoc, append-nil}
use mathlib.Core.Path.{◌≡◌, refl, sym, ap, ap₂, subst, ◌∙◌}
use Prim.Native.Nat.{ℕ, ◌+◌, ◌-◌, ◌<◌}
use native.Mathlib.Omega.{arith}
use lib.Dec.{eqb}
use lib.ListN.{length, length-append, length-drop}
use borrow.Author.Tests.{eqb-true, eqb-false}
use Rattle.laws.proofs.Cases.{by, by_le}
use Rattle.monitor.specs.Runs.{Call, shipped, after_by, replies_by}
use Rattle.monitor.specs.State.{well_formed}
use Rattle.monitor.specs.declared.state.MqttMonitor.{MqttMonitor}
use Rattle.monitor.proofs.Replies.{run_formed, after_two, replies_two}
use Rattle.packets.specs.Packet.{ToldPacket, packet_at}
use Rattle.packets.proofs.messages.MovedLaws.{packet_before, calls_before, packet_behind, calls_behind}
use Rattle.queue.specs.Joined.{at_once, left_by, second, CallsJoin}
use Rattle.queue.specs.Queue.{Wake, calls_in, records_of, Ran, ends_at, ran_of, sent_of}
use Rattle.queue.proofs.Singly.{reaches, ends, sent_exact}
use Rattle.queue.proofs.run.RanLaws.{records_join, formless, left, left_end, left_stop, left_turn, packet_good, packet_refuses, refused_packet, refused_none, refused_room}

-- a call that does not end by 28, at a place that it comes to
module _ (m : MqttMonitor) (w : Wake) (roomy : (ran_of m w).number ≡ 28 → ⊥) (place : ℕ) (sent : List Call) (at : ran_of m w ≡ left m w place sent) where
  -- it does the packet there, if nothing is wrong with it
  goes_on : place < length w.bytes → (packet_at w.bytes place).number ≡ 0 → ran_of m w ≡ left m w (place + (packet_at w.bytes place).length) (sent ++ calls_in w place)
  goes_on l z =
      by_le (length (records_of m (sent ++ calls_in w place))) w.room (λ h. at ∙ left_turn m w place sent l (refused_none m w place sent refl z h))
      (λ h.
      let e = at ∙ left_stop m w place sent l (refused_room m w place sent refl z h) (λ x. absurd (omega arith)) in
      absurd (roomy (ap (λ (r : Ran). r.number) e)))

module _ (m : MqttMonitor) (w : Wake) (more : List ℕ) (room whole : ℕ) (f : well_formed m ≡ true)
    (enough : (ran_of (left_by m w more room) (second m w more room)).number ≡ 28 → ⊥) (roomy : (ran_of m (at_once w more whole)).number ≡ 28 → ⊥) where
  abbrev one : Wake
  one = at_once w more whole

  abbrev first : Ran
  first = ran_of m w

  abbrev m₂ : MqttMonitor
  m₂ = left_by m w more room

  abbrev two : Wake
  two = second m w more room

  long : length one.bytes ≡ length w.bytes + length more
  long = length-append w.bytes more

  start : ran_of m one ≡ left m one 0 []
  unfolding ran_of
  start = rw f

  -- as far as the first call
  as_first : ran_of m one ≡ left m one first.place first.sent
  as_first =
      reaches m w (λ place sent. ran_of m one ≡ left m one place sent)
      (λ place sent l z h.
      let n = packet_good m w place sent z in
      let p = packet_before w.bytes more place w.time w.ok n in
      let c = calls_before w.bytes more place w.time w.ok n in
      goes_on m one roomy place sent h (omega (arith, l, long)) (ap (λ (x : ToldPacket). x.number) p ∙ n)
      ∙ ap₂ (λ (k : ℕ) (cs : List Call). left m one (place + k) (sent ++ cs)) (ap (λ (x : ToldPacket). x.length) p) c)
      start

  rest_long : length two.bytes ≡ length one.bytes - first.place
  rest_long = length-drop first.place one.bytes

  -- then as far as the second
  as_second : ran_of m one ≡ left m one (first.place + (ran_of m₂ two).place) (first.sent ++ sent_of m₂ two)
  as_second =
      reaches m₂ two (λ place sent. ran_of m one ≡ left m one (first.place + place) (first.sent ++ sent))
      (λ place sent l z h.
      let n = packet_good m₂ two place sent z in
      let p = packet_behind one.bytes first.place place in
      let c = calls_behind one.bytes first.place place w.time w.ok in
      let k : first.place + place + (packet_at one.bytes (first.place + place)).length ≡ first.place + (place + (packet_at two.bytes place).length) =
      omega (arith, ap (λ (x : ToldPacket). x.length) p) in
      goes_on m one roomy (first.place + place) (first.sent ++ sent) h (omega (arith, l, rest_long)) (sym (ap (λ (x : ToldPacket). x.number) p) ∙ n)
      ∙ ap₂ (left m one) k
      (append_assoc first.sent sent (calls_in one (first.place + place)) ∙ ap (λ (cs : List Call). first.sent ++ (sent ++ cs)) (sym c)))
      (as_first ∙ ap₂ (left m one) (omega arith) (sym (append-nil first.sent)))

  formed₂ : well_formed m₂ ≡ true
  formed₂ = run_formed (sent_of m w) m f (sent_exact m w)

  -- where it ends
  same_end : ran_of m one ≡ ends_at (ran_of m₂ two).number (first.place + (ran_of m₂ two).place) (first.sent ++ sent_of m₂ two)
  same_end =
      let e = ends m₂ two formed₂ in
      let q = (ran_of m₂ two).place in
      let sent = sent_of m₂ two in
      let at = first.place + q in
      by (eqb (ran_of m₂ two).number 0)
      (λ t.
      let z = eqb-true _ _ t in
      let l = e.whole z in
      as_second ∙ left_end m one at (first.sent ++ sent) (omega (arith, l, rest_long)) ∙ ap (λ (k : ℕ). ends_at k at (first.sent ++ sent)) (sym z))
      (λ t.
      let r = e.refused (eqb-false _ _ t) in
      let p = packet_behind one.bytes first.place q in
      let n = packet_refuses m₂ two q sent r.1 enough (eqb-false _ _ t) in
      as_second
      ∙ left_stop m one at (first.sent ++ sent) (omega (arith, r.0, rest_long))
      (refused_packet m one at (first.sent ++ sent) p (λ x. eqb-false _ _ t (sym n ∙ x)) ∙ n) (eqb-false _ _ t))

-- a state that is refused is left as it was, and refused again
module _ (m : MqttMonitor) (w : Wake) (more : List ℕ) (room whole : ℕ) (f : well_formed m ≡ false) where
  same_state : left_by m w more room ≡ m
  unfolding after_by
  same_state = ap (λ (r : Ran). after_by shipped m r.sent) (formless m w f)

  again : ran_of (left_by m w more room) (second m w more room) ≡ ends_at 10 0 []
  again = formless (left_by m w more room) (second m w more room) (subst (λ (x : MqttMonitor). well_formed x ≡ false) (sym same_state) f)

  none_end : ran_of m (at_once w more whole)
      ≡ ends_at (ran_of (left_by m w more room) (second m w more room)).number ((ran_of m w).place + (ran_of (left_by m w more room) (second m w more room)).place)
      (sent_of m w ++ sent_of (left_by m w more room) (second m w more room))
  none_end =
      formless m (at_once w more whole) f
      ∙ ap₂ (λ (a b : Ran). ends_at b.number (a.place + b.place) (a.sent ++ b.sent)) (sym (formless m w f)) (sym again)

pub calls_join : CallsJoin
calls_join m w more room whole enough roomy =
    let e = by (well_formed m) (λ f. same_end m w more room whole f enough roomy) (none_end m w more room whole) in
    let s = ap (λ (r : Ran). r.sent) e in
    let b = sent_of (left_by m w more room) (second m w more room) in
    record {
      number = ap (λ (r : Ran). r.number) e;
      place = ap (λ (r : Ran). r.place) e;
      sent = s;
      replies = ap (replies_by shipped m) s ∙ replies_two shipped m (sent_of m w) b;
      records = ap (records_of m) s ∙ records_join m 1 (sent_of m w) b;
      state = ap (after_by shipped m) s ∙ after_two shipped m (sent_of m w) b;
    }
