-- The two loops over the messages of a packet: what is left to be measured, or to be written, at a step. Assumes nothing.
use mathlib.Core.Bool.{Bool, true, false, cond, not, ◌||◌}
use mathlib.Core.List.{List, [], ◌∷◌, ◌++◌, map, append-nil}
use mathlib.Core.Path.{◌≡◌, refl, sym, ap, ◌∙◌}
use Prim.Native.Nat.{ℕ, ◌+◌, ◌-◌, ◌≤◌, ◌<◌}
use native.Mathlib.Omega.{arith}
use lib.Dec.{eqb, leb}
use lib.ListN.{length, length-append}
use borrow.Author.Tests.{eqb-true, leb-true, leb-false, le-leb, lt-leb}
use Rattle.std.specs.Prelude.{Err}
use Rattle.laws.specs.Lists.{every}
use Rattle.laws.proofs.Cases.{by}
use Rattle.laws.proofs.Every.{every_both}
use Rattle.laws.proofs.Tests.{alike, either}
use Rattle.lines.specs.Wrote.{Wrote}
use Rattle.lines.proofs.put.WroteLaws.{wrote_then, wrote_none}
use Rattle.monitor.specs.Inspect.{applied, result_of, done_with}
use Rattle.monitor.specs.Message.{type_number}
use Rattle.monitor.specs.Plan.{plan_of}
use Rattle.monitor.specs.Runs.{Call, Exact, shipped, after_by, replies_by}
use Rattle.monitor.specs.State.{well_formed, matcher_of}
use Rattle.monitor.specs.Ended.{Inspected}
use Rattle.monitor.specs.declared.plan.Plan.{Plan}
use Rattle.monitor.specs.declared.state.MqttMonitor.{MqttMonitor}
use Rattle.monitor.proofs.Replies.{shipped_done, done_formed}
use Rattle.trace.specs.AsRun.{records_text}
use Rattle.trace.specs.Record.{record_text}
use Rattle.packets.specs.Bodies.{is_list}
use Rattle.packets.specs.Messages.{ToldMessage, message_told, message_at, messages_at}
use Rattle.packets.specs.Packet.{ToldPacket, packet_at}
use Rattle.packets.specs.Steps.{is_listed}
use Rattle.packets.specs.Taken.{topic_bytes, payload_bytes, call_of, calls_at, Within}
use Rattle.packets.specs.declared.packet.Packet.{Packet}
use Rattle.packets.specs.declared.refusal.PacketRefusal.{PacketRefusal}
use Rattle.packets.proofs.RefusalLaws.{refusal_some}
use Rattle.packets.proofs.Steps.{steps}
use Rattle.packets.proofs.messages.LeftLaws.{within_exact, calls_exact, left, Good, turn, good_both, good_now, good_next, none_left, first-left, first_good}
use Rattle.queue.specs.Queue.{records_from}
use Rattle.queue.specs.Several.{Rulebook, book_of, light_for, light_text}
use Rattle.queue.specs.Turn.{IsRead}
use Rattle.queue.proofs.several.LightLaws.{asks_none, records_light}

-- a text that fits takes its room from what follows
pub fits_less : (a b room : ℕ) → a ≤ room → leb (a + b) room ≡ leb b (room - a)
fits_less a b room h =
    alike (leb (a + b) room) (leb b (room - a)) (λ e. le-leb b (room - a) (omega (arith, leb-true (a + b) room e)))
    (λ e. le-leb (a + b) room (omega (arith, leb-true b (room - a) e)))

-- whoever writes what is left has written all
abbrev pub Going : List ℕ → List ℕ → ℕ → ℕ → List ℕ → List ℕ → Type 0
Going d e at p all rest = (f : List ℕ) (r : ℕ) → Wrote e f p rest r → Wrote d f at all r

pub going_end : {d o all : List ℕ} {at p : ℕ} {rest : List ℕ} → rest ≡ [] → Going d o at p all rest → Wrote d o at all p
going_end {o = o} {p = p} e inv = inv o p (rw e (wrote_none o p))

module _ (s : List ℕ) (place now_us : ℕ) (ok : Bool) where
  -- the calls that are left at a step
  abbrev pub left_calls : ℕ → ℕ → List Call
  left_calls k step = map (call_of s) (left s place now_us ok k step)

  -- all of them at the first, and all of them good
  pub first_calls : {p : Packet} → IsRead s place p → left_calls p.messages p.first ≡ calls_at s place now_us ok
  first_calls e = ap (map (call_of s)) (first-left s place now_us ok e refl)

  pub first_fine : {p : Packet} → IsRead s place p → Good s place now_us ok p.messages p.first
  first_fine e = first_good s place now_us ok e refl

  -- none at the end
  none_calls : {k : ℕ} (step : ℕ) → k ≤ 0 → left_calls k step ≡ []
  none_calls step h = ap (map (call_of s)) (none_left s place now_us ok step (omega (arith, h)))

  pub none_text : {k : ℕ} (book : Rulebook) (n id sum step : ℕ) → k ≤ 0 → light_text book n id sum (left_calls k step) ≡ []
  unfolding light_text
  none_text book n id sum step h = rw (none_calls step h)

  pub none_records : {k : ℕ} (m : MqttMonitor) (n step : ℕ) → k ≤ 0 → records_from n m (left_calls k step) ≡ []
  unfolding records_text replies_by
  none_records m n step h = rw (none_calls step h)

  pub none_after : {k : ℕ} (m : MqttMonitor) (step : ℕ) → k ≤ 0 → after_by shipped m (left_calls k step) ≡ m
  unfolding after_by
  none_after m step h = rw (none_calls step h)

  -- one message more
  module _ {k : ℕ} (j step : ℕ) (q : k ≡ j + 1) (g : Good s place now_us ok k step) {x : ToldMessage} (e : x ≡ message_at s place step now_us ok) where
    some : 0 < k
    some = omega (arith, q)

    less : k - 1 ≡ j
    less = omega (arith, q)

    -- it is there
    pub taken_number : x.number ≡ 0
    taken_number = eqb-true x.number 0 (good_both s place now_us ok step some e g).0

    -- so reading it is not refused
    pub never_refused : (e : PacketRefusal) → x ≡ message_told (Err e) → ⊥
    never_refused e r = refusal_some e (sym (ap (λ (y : ToldMessage). y.number) r) ∙ taken_number)

    pub taken_within : Within s place x
    taken_within = good_now s place now_us ok step some e g

    pub taken_next : Good s place now_us ok j x.next
    taken_next = rw less at (good_next s place now_us ok step some e g)

    one_call : left_calls k step ≡ call_of s x ∷ left_calls j x.next
    one_call = ap (map (call_of s)) (turn s place now_us ok step some e) ∙ ap (λ (i : ℕ). call_of s x ∷ left_calls i x.next) less

    -- measured, where it asks no table
    module _ (book : Rulebook) (n id sum : ℕ) {p : Plan} (f : p ≡ light_for book id sum (call_of s x)) {need : ℕ} (l : need ≡ length (record_text n (result_of p))) where
      abbrev all : List ℕ
      all = light_text book n id sum (left_calls k step)

      abbrev rest : List ℕ
      rest = light_text book (n + 1) p.raised.next_id p.raised.total (left_calls j x.next)

      long : length all ≡ need + length rest
      unfolding light_text
      long = rw (one_call, l, f) (length-append (record_text n (result_of (light_for book id sum (call_of s x)))) _)

      pub fits_not : (room : ℕ) → room < need → leb (length all) room ≡ false
      fits_not room h = rw long (lt-leb (need + length rest) room (omega arith))

      pub fits_turn : (room : ℕ) → need ≤ room → leb (length all) room ≡ leb (length rest) (room - need)
      fits_turn room h = rw long (fits_less need (length rest) room h)

    -- inspected
    module _ (m : MqttMonitor) (w : well_formed m ≡ true) {p : Plan} (f : p ≡ plan_of (matcher_of m) m x.msg (topic_bytes s x) (payload_bytes s x)) where
      done : shipped m (call_of s x) ≡ done_with m p
      done = rw f (shipped_done m (call_of s x) w (within_exact s place x taken_within))

      pub formed_turn : well_formed (applied m p) ≡ true
      formed_turn = rw f (done_formed m (call_of s x) w (within_exact s place x taken_within))

      pub records_turn : (n : ℕ) → records_from n m (left_calls k step) ≡ record_text n (result_of p) ++ records_from (n + 1) (applied m p) (left_calls j x.next)
      unfolding records_text replies_by
      records_turn n = rw (one_call, done)

      pub state_turn : after_by shipped m (left_calls k step) ≡ after_by shipped (applied m p) (left_calls j x.next)
      unfolding after_by
      state_turn = rw one_call (ap (λ (r : Inspected). after_by shipped r.monitor (left_calls j x.next)) done)

      pub going_turn : (n : ℕ) {d o o' all : List ℕ} {from r r' : ℕ} → Going d o from r all (records_from n m (left_calls k step)) → Wrote o o' r (record_text n (result_of p)) r'
          → Going d o' from r' all (records_from (n + 1) (applied m p) (left_calls j x.next))
      going_turn n inv v = λ f u z. inv f u (rw (records_turn n) (wrote_then v z))

  -- a packet of one message, by its plan
  module _ {packet : Packet} (r : IsRead s place packet) (o : packet.messages ≡ 1) {x : ToldMessage} (e : x ≡ message_at s place packet.first now_us ok) where
    one_more : packet.messages ≡ 0 + 1
    one_more = omega (arith, o)

    pub one_refused : (e : PacketRefusal) → x ≡ message_told (Err e) → ⊥
    one_refused = never_refused 0 packet.first one_more (first_fine r) e

    pub one_within : Within s place x
    one_within = taken_within 0 packet.first one_more (first_fine r) e

    module _ (m : MqttMonitor) (w : well_formed m ≡ true) {p : Plan} (f : p ≡ plan_of (matcher_of m) m x.msg (topic_bytes s x) (payload_bytes s x)) where
      pub one_records : (n : ℕ) → records_from n m (calls_at s place now_us ok) ≡ record_text n (result_of p)
      one_records n =
          ap (records_from n m) (sym (first_calls r)) ∙ records_turn 0 packet.first one_more (first_fine r) e m w f n
          ∙ ap (λ (t : List ℕ). record_text n (result_of p) ++ t) (none_records (applied m p) (n + 1) x.next (omega arith)) ∙ append-nil (record_text n (result_of p))

      pub one_state : after_by shipped m (calls_at s place now_us ok) ≡ applied m p
      one_state =
          ap (after_by shipped m) (sym (first_calls r)) ∙ state_turn 0 packet.first one_more (first_fine r) e m w f ∙ none_after (applied m p) x.next (omega arith)

-- a list is neither a CONNECT nor a Publish
not_listed : (kind : ℕ) → is_list kind ≡ true → not (eqb kind 1 || eqb kind 3) ≡ true
not_listed kind l = either (eqb kind 8) (eqb kind 10) l (λ e. let k : kind ≡ 8 = eqb-true _ _ e in rw k) (λ e. let k : kind ≡ 10 = eqb-true _ _ e in rw k)

-- so its messages ask no table
listed_light : (s : List ℕ) (ms : List ToldMessage) → every is_listed ms ≡ true → every asks_none (map (call_of s) ms) ≡ true
unfolding every
listed_light s [] e = refl
listed_light s (x ∷ ms) e = let h = every_both is_listed x ms e in rw (not_listed (type_number x.msg.packet_type) h.0) (listed_light s ms h.1)

-- and their records follow from rules and counters
pub several_records : (s : List ℕ) (place now_us : ℕ) (ok : Bool) {p : Packet} (e : IsRead s place p) → (p.messages ≡ 1 → ⊥) → (m : MqttMonitor) → well_formed m ≡ true → (n : ℕ)
    → light_text (book_of m) n m.next_alert_id m.total_alerts (calls_at s place now_us ok) ≡ records_from n m (calls_at s place now_us ok)
several_records s place now_us ok e more m w n =
    let z : (packet_at s place).number ≡ 0 = rw (← e) in
    let several = steps.several s place now_us ok z (λ o. more (ap (λ (q : ToldPacket). q.messages) e ∙ o)) in
    sym (records_light (calls_at s place now_us ok) m n w (calls_exact s place now_us ok z) (listed_light s (messages_at s place now_us ok) several))

-- what the test of the room says
pub room_fits : (long room : ℕ) → ◌≡◌ {A = ℕ} 0 (cond (leb long room) 0 28) → long ≤ room
room_fits long room e = by (leb long room) (leb-true long room) (λ f. absurd (omega (arith, rw f at e)))

pub room_full : (long room number : ℕ) → (number ≡ 0 → ⊥) → number ≡ cond (leb long room) 0 28 → (number ≡ 28) × (room < long)
room_full long room number z e = by (leb long room) (λ t. absurd (z (rw t at e))) (λ f. (rw f at e, leb-false long room f))
