-- How the loop of a run goes: after some messages the state is what they leave, the buffer holds their records, and the definition's run goes on from the place (`Running`). It ends there, or goes on
-- with the messages of a packet. Assumes nothing.
use mathlib.Core.Bool.{Bool, true, false, cond}
use mathlib.Core.List.{List, [], ◌++◌}
use mathlib.Core.Path.{◌≡◌, refl, sym, ap, ◌∙◌}
use Prim.Native.Nat.{ℕ, ◌+◌, ◌-◌, ◌≤◌, ◌<◌}
use native.Mathlib.Omega.{arith}
use lib.Dec.{leb}
use lib.ListN.{length, length-append, length-map}
use lib.Seq.{sets}
use Rattle.std.specs.Prelude.{Ok, Err}
use Rattle.lines.specs.Wrote.{Wrote}
use Rattle.lines.proofs.put.WroteLaws.{wrote_none, wrote_then, wrote_length, wrote_room}
use Rattle.monitor.specs.Runs.{Call, shipped, after_by, replies_by}
use Rattle.monitor.specs.State.{well_formed}
use Rattle.monitor.specs.declared.state.MqttMonitor.{MqttMonitor}
use Rattle.monitor.proofs.Replies.{AllExact, exact_join, run_formed, after_two}
use Rattle.trace.specs.AsRun.{records_text}
use Rattle.packets.specs.Messages.{messages_at}
use Rattle.packets.specs.Packet.{first_of, packet_at}
use Rattle.packets.specs.Taken.{call_of, calls_at}
use Rattle.packets.proofs.Steps.{steps}
use Rattle.packets.proofs.messages.LeftLaws.{calls_exact}
use Rattle.packets.proofs.packet.AcceptedLaws.{packet_is}
use Rattle.queue.specs.Queue.{Wake, wake_of, records_from, records_of, queue_refusal, Ran, ends_at, ran_of, QueueEnd, ended, end_of, queue_end, queue_kept}
use Rattle.queue.specs.Refusal.{queue_number}
use Rattle.queue.specs.Turn.{Goes, Stops}
use Rattle.queue.specs.declared.refusal.QueueRefusal.{QueueRefusal}
use Rattle.queue.specs.declared.refusal.QueueRefusal.TheVariants.{BadState}
use Rattle.queue.specs.declared.run.Reached.{Reached}
use Rattle.queue.specs.declared.run.RunEnd.{RunEnd}
use Rattle.queue.proofs.RefusalLaws.{queue_some}
use Rattle.queue.proofs.run.RanLaws.{records_join, formless, left, left_end, left_stop, left_turn, refused_none}
use Rattle.queue.proofs.several.LoopLaws.{fits_less}

-- what is handed back, from its parts
end_is : (m₀ : MqttMonitor) (number at : ℕ) (sent : List Call) {done p : ℕ} {m : MqttMonitor}
    → done ≡ length sent → p ≡ length (records_of m₀ sent) → m ≡ after_by shipped m₀ sent
    → ◌≡◌ {A = QueueEnd} (record { number = number; place = at; done = done; length = p; monitor = m }) (end_of m₀ (ends_at number at sent))
end_is m₀ number at sent a b c = rw (a, b, c)

module _ (m₀ : MqttMonitor) (s : List ℕ) (time : ℕ) (ok : Bool) (d₀ : List ℕ) where
  -- what the call brings
  abbrev pub wake : Wake
  wake = wake_of s time ok (length d₀)

  -- the call's promise
  abbrev pub Ended : List ℕ → MqttMonitor → RunEnd → Type 0
  Ended d m x = (ended x m ≡ queue_end m₀ wake) × (d ≡ queue_kept m₀ wake d₀)

  -- 10 before everything
  pub ill_formed : well_formed m₀ ≡ false → Ended d₀ m₀ (record { outcome = Err BadState; reached = record { place = 0; done = 0; length = 0 } })
  unfolding records_text replies_by after_by
  ill_formed f =
      let r = sym (formless m₀ wake f) in
      (ap (end_of m₀) r, ap (λ (x : Ran). sets d₀ 0 (records_of m₀ x.sent)) r)

  -- the loop stands at a place, so many messages being done: `d` is its buffer, and `m` the state
  pub record Running (d : List ℕ) (m : MqttMonitor) (r : Reached) : Type 0 where
    pub sent : List Call
    pub formed : well_formed m₀ ≡ true
    pub exact : AllExact sent
    pub state : m ≡ after_by shipped m₀ sent
    pub count : r.done ≡ length sent
    pub few : r.done + r.done ≤ r.place
    pub fits : length (records_of m₀ sent) ≤ length d₀
    pub wrote : Wrote d₀ d 0 (records_of m₀ sent) r.length
    pub run : ran_of m₀ wake ≡ left m₀ wake r.place sent

  pub run_start : well_formed m₀ ≡ true → Running d₀ m₀ (record { place = 0; done = 0; length = 0 })
  unfolding ran_of records_text replies_by after_by
  run_start f =
      record { sent = []; formed = f; exact = tt; state = refl; count = refl; few = omega arith; fits = omega arith; wrote = wrote_none d₀ 0; run = rw f }

  module _ {d : List ℕ} {m : MqttMonitor} {r : Reached} (i : Running d m r) where
    pub run_long : length d ≡ length d₀
    run_long = wrote_length i.wrote

    place_is : r.length ≡ length (records_of m₀ i.sent)
    place_is = wrote_room i.wrote (omega (arith, i.fits)) ∙ omega arith

    pub run_place : r.length ≤ length d
    run_place = omega (arith, run_long, place_is, i.fits)

    pub state_formed : well_formed m ≡ true
    state_formed = rw i.state (run_formed i.sent m₀ i.formed i.exact)

    -- it ends
    run_end : (x : RunEnd) → x.reached ≡ r → left m₀ wake r.place i.sent ≡ ends_at (ended x m).number r.place i.sent → Ended d m x
    run_end x q e =
        let f = sym (i.run ∙ e) in
        (rw q (end_is m₀ (ended x m).number r.place i.sent i.count place_is i.state ∙ ap (end_of m₀) f), i.wrote.bytes ∙ ap (λ (a : Ran). sets d₀ 0 (records_of m₀ a.sent)) f)

    pub run_over : length s ≤ r.place → Ended d m (record { outcome = Ok tt; reached = r })
    run_over h = run_end (record { outcome = Ok tt; reached = r }) refl (left_end m₀ wake r.place i.sent h)

    module _ (h : r.place < length s) where
      abbrev calls : List Call
      calls = calls_at s r.place time ok

      -- the records of the packet here
      abbrev here : List ℕ
      here = records_from (r.done + 1) m calls

      all_records : records_of m₀ (i.sent ++ calls) ≡ records_of m₀ i.sent ++ here
      all_records =
          let o : 1 + length i.sent ≡ r.done + 1 = omega (arith, i.count) in
          records_join m₀ 1 i.sent calls ∙ rw (o, ← i.state)

      all_long : length (records_of m₀ (i.sent ++ calls)) ≡ r.length + length here
      all_long = ap length all_records ∙ length-append (records_of m₀ i.sent) here ∙ omega (arith, place_is)

      -- what refuses it
      refusal_here : queue_refusal m₀ wake r.place i.sent ≡ first_of (packet_at s r.place).number (cond (leb (length here) (length d - r.length)) 0 28)
      unfolding queue_refusal
      refusal_here = rw (all_long, ← run_long) (ap (λ b. first_of (packet_at s r.place).number (cond b 0 28)) (fits_less r.length (length here) (length d) run_place))

      pub run_stop : {m' : MqttMonitor} {d' : List ℕ} {e : QueueRefusal} → Stops s time ok m m' d d' r e → Ended d' m' (record { outcome = Err e; reached = r })
      run_stop {e = e} g =
          rw (g.state, g.buffer) (run_end (record { outcome = Err e; reached = r }) refl (left_stop m₀ wake r.place i.sent h (refusal_here ∙ sym g.number) (queue_some e)))

      pub run_turn : {m' : MqttMonitor} {d' : List ℕ} {to : Reached} → Goes s time ok m m' d d' r to → Running d' m' to
      run_turn {to = to} g =
          let w = g.written in
          let fit : r.length + length here ≤ length d₀ = omega (arith, run_long, run_place, w.fits) in
          let count : length calls ≡ (packet_at s r.place).messages = length-map (messages_at s r.place time ok) (call_of s) ∙ steps.counted s r.place time ok g.good in
          record {
            sent = i.sent ++ calls;
            formed = i.formed;
            exact = exact_join i.sent calls i.exact (calls_exact s r.place time ok g.good);
            state = w.state ∙ rw i.state (sym (after_two shipped m₀ i.sent calls));
            count = g.done ∙ rw (i.count, ← count) (sym (length-append i.sent calls));
            few = omega (arith, i.few, steps.few s r.place g.good, g.done, g.place);
            fits = omega (arith, all_long, fit);
            wrote = rw all_records (wrote_then i.wrote w.wrote);
            run =
                i.run ∙ left_turn m₀ wake r.place i.sent h (refused_none m₀ wake r.place i.sent refl g.good (omega (arith, all_long, fit)))
                ∙ ap (λ (k : ℕ). left m₀ wake k (i.sent ++ calls)) (sym g.place);
          }

-- a packet that is done takes bytes
pub goes_on : {s : List ℕ} {time : ℕ} {ok : Bool} {m m' : MqttMonitor} {d d' : List ℕ} {r to : Reached} → Goes s time ok m m' d d' r to → r.place + 2 ≤ to.place
goes_on {s = s} {r = r} g = omega (arith, g.place, (packet_is s r.place refl).1.some g.good)
