-- What is claimed of one call (specs/Singly.antt). What holds before the first packet, and of each packet that is done, holds where the run ends (`reaches`); and it ends at the end of the bytes, or
-- at a packet that is refused. Assumes nothing.
use mathlib.Core.Bool.{true}
use mathlib.Core.List.{List, [], ◌∷◌, ◌++◌}
use mathlib.Core.Path.{◌≡◌, refl, sym, ap, subst, ◌∙◌}
use Prim.Native.Nat.{ℕ, zero, suc, ◌+◌, ◌-◌, ◌≤◌, ◌<◌}
use native.Mathlib.Omega.{arith}
use lib.Dec.{eqb, leb}
use lib.ListN.{length, drop}
use lib.Seq.{sets-eq}
use borrow.Author.Tests.{eqb-true, eqb-false, leb-true, leb-false, le-leb}
use Rattle.laws.specs.Lists.{every}
use Rattle.laws.proofs.Cases.{by, choose, whichever}
use Rattle.monitor.specs.Runs.{Call, shipped, replies_by, is_inspected}
use Rattle.monitor.specs.State.{well_formed, matcher_of}
use Rattle.monitor.specs.declared.state.MqttMonitor.{MqttMonitor}
use Rattle.monitor.proofs.Four.{four_at_most}
use Rattle.monitor.proofs.Replies.{AllExact, exact_join, run_inspected}
use Rattle.trace.specs.AsRun.{records_text}
use Rattle.packets.specs.Packet.{packet_at}
use Rattle.packets.proofs.messages.LeftLaws.{calls_exact, AllAt, at_join, calls_at_lem}
use Rattle.queue.specs.Queue.{Wake, calls_in, records_of, queue_refusal, Ran, ran_from, ran_of, sent_of, queue_kept}
use Rattle.queue.specs.Singly.{Packets, none, next, is_recorded, is_end, AsSingly}
use Rattle.queue.proofs.run.RanLaws.{formless, packet_good, room_good, further, refusal_known}

module _ (m : MqttMonitor) (w : Wake) where
  -- what goes along a run
  module _ (P : ℕ → List Call → Type 0)
      (step : (place : ℕ) (sent : List Call) → place < length w.bytes → queue_refusal m w place sent ≡ 0 → P place sent
      → P (place + (packet_at w.bytes place).length) (sent ++ calls_in w place)) where
    from : (k place : ℕ) (sent : List Call) → P place sent → P (ran_from k m w place sent).place (ran_from k m w place sent).sent
    unfolding ran_from
    from zero place sent h = h
    from (suc k) place sent h =
        let Q : Ran → Type 0 = λ (r : Ran). P r.place r.sent in
        choose Q (leb (length w.bytes) place) (λ _. h)
        (λ t.
        choose Q (eqb (queue_refusal m w place sent) 0)
        (λ u. from k (place + (packet_at w.bytes place).length) (sent ++ calls_in w place) (step place sent (leb-false _ _ t) (eqb-true _ _ u) h))
        (λ _. h))

    pub reaches : P 0 [] → P (ran_of m w).place (sent_of m w)
    unfolding ran_of
    reaches h = choose (λ (r : Ran). P r.place r.sent) (well_formed m) (λ _. from (length w.bytes + 1) 0 [] h) (λ _. h)

  -- where a run ends that has turns enough
  pub record Ends (r : Ran) : Type 0 where
    pub whole : r.number ≡ 0 → length w.bytes ≤ r.place
    pub refused : (r.number ≡ 0 → ⊥) → (r.place < length w.bytes) × (queue_refusal m w r.place r.sent ≡ r.number)

  ends_from : (k place : ℕ) (sent : List Call) → length w.bytes - place < k → Ends (ran_from k m w place sent)
  unfolding ran_from
  ends_from zero place sent h = absurd (omega arith)
  ends_from (suc k) place sent h =
      choose Ends (leb (length w.bytes) place) (λ t. record { whole = λ _. leb-true _ _ t; refused = λ z. absurd (z refl) })
      (λ t.
      let l : place < length w.bytes = leb-false _ _ t in
      choose Ends (eqb (queue_refusal m w place sent) 0)
      (λ u.
      let f = further m w place sent (eqb-true _ _ u) in
      ends_from k (place + (packet_at w.bytes place).length) (sent ++ calls_in w place) (omega (arith, h, f, l)))
      (λ u. record { whole = λ e. absurd (eqb-false _ _ u e); refused = λ _. (l, refl) }))

  pub ends : well_formed m ≡ true → Ends (ran_of m w)
  unfolding ran_of
  ends f = rw f (ends_from (length w.bytes + 1) 0 [] (omega arith))

  -- 10 is not 0
  formed : (ran_of m w).number ≡ 0 → well_formed m ≡ true
  formed e = by (well_formed m) (λ t. t) (λ f. absurd (omega (arith, ap (λ (r : Ran). r.number) (formless m w f), e)))

  packets : Packets w (ran_of m w).place (sent_of m w)
  packets = reaches (Packets w) (λ place sent _ z p. next p (packet_good m w place sent z)) none

  pub place_within : (ran_of m w).place ≤ length w.bytes
  place_within = reaches (λ place _. place ≤ length w.bytes) (λ place sent _ z _. (further m w place sent z).1) (omega arith)

  pub sent_exact : AllExact (sent_of m w)
  sent_exact =
      reaches (λ _ sent. AllExact sent)
      (λ place sent _ z h. exact_join sent (calls_in w place) h (calls_exact w.bytes place w.time w.ok (packet_good m w place sent z))) tt

  -- all of them have the call's time
  pub sent_at : AllAt w.time (sent_of m w)
  sent_at =
      reaches (λ _ sent. AllAt w.time sent) (λ place sent _ _ h. at_join w.time sent (calls_in w place) h (calls_at_lem w.bytes place w.time w.ok)) tt

  -- of a state that is refused nothing is done
  inspected : every is_inspected (replies_by shipped m (sent_of m w)) ≡ true
  unfolding replies_by every
  inspected = by (well_formed m) (λ t. run_inspected (sent_of m w) m t sent_exact)
      (λ f. subst (λ (r : Ran). every is_inspected (replies_by shipped m r.sent) ≡ true) (sym (formless m w f)) refl)

  no_records : length (records_of m []) ≤ w.room
  unfolding records_text replies_by
  no_records = omega arith

  fits : length (records_of m (sent_of m w)) ≤ w.room
  fits = reaches (λ _ sent. length (records_of m sent) ≤ w.room) (λ place sent _ z _. room_good m w place sent z) no_records

  behind : (d : List ℕ) → length d ≡ w.room → queue_kept m w d ≡ records_of m (sent_of m w) ++ drop (length (records_of m (sent_of m w))) d
  behind d e =
      let t = records_of m (sent_of m w) in
      let n : 0 + length t ≡ length t = omega arith in
      sets-eq t d 0 (omega (arith, fits, e)) ∙ ap (λ (k : ℕ). t ++ drop k d) n

  -- the numbers that there are
  known_from : (k place : ℕ) (sent : List Call) → is_end (ran_from k m w place sent).number ≡ true
  unfolding ran_from
  known_from zero place sent = refl
  known_from (suc k) place sent =
      let Q : Ran → Type 0 = λ (r : Ran). is_end r.number ≡ true in
      whichever Q (leb (length w.bytes) place) refl
      (whichever Q (eqb (queue_refusal m w place sent) 0) (known_from k (place + (packet_at w.bytes place).length) (sent ++ calls_in w place))
      (refusal_known m w (λ n. is_end n ≡ true) refl refl refl refl refl place sent))

  known : is_end (ran_of m w).number ≡ true
  unfolding ran_of
  known = whichever (λ (r : Ran). is_end r.number ≡ true) (well_formed m) (known_from (length w.bytes + 1) 0 []) refl

-- at most four alerts, of whatever call
four : (cs : List Call) (m : MqttMonitor) → every is_recorded (replies_by shipped m cs) ≡ true
unfolding every replies_by
four [] m = refl
four (c ∷ cs) m = rw (le-leb _ _ (four_at_most (matcher_of m) m c)) (four cs (shipped m c).monitor)

pub as_singly : AsSingly
as_singly m w =
    record {
      packets = packets m w;
      inspected = inspected m w;
      recorded = four (sent_of m w) m;
      fits = fits m w;
      behind = behind m w;
      formless = formless m w;
      whole = λ e. let p = (ends m w (formed m w e)).whole e in omega (arith, p, place_within m w);
      ended = λ f z. (ends m w f).refused z;
      known = known m w;
    }
