-- How a pass goes over the messages of a trace: what is left to print (`Going`) begins where the rules are loaded (`going_start`), goes on with a message (`going_turn`), and ends at the text's end
-- (`Going-end`) or at a refused line (`going-stop`) with the closing lines. Assumes nothing.
use Prim.Native.Nat.{ℕ, suc, ◌+◌, ◌-◌, ◌≤◌, ◌<◌}
use mathlib.Core.Path.{◌≡◌, refl, sym, ap, ◌∙◌}
use mathlib.Core.Bool.{Bool, true, false}
use mathlib.Core.List.{List, ◌++◌}
use Rattle.std.specs.Prelude.{Ok, Err}
use native.Mathlib.Omega.{arith}
use native.Mathlib.Numerals.{add-one}
use lib.Dec.{eqb, leb}
use lib.ListN.{length, length-append}
use lib.Seq.{sets, length-sets}
use borrow.Author.Tests.{eqb-true, eq-eqb, ne_eqb, le-leb, lt-leb, leb-false}
use Rattle.laws.proofs.Cases.{by}
use Rattle.laws.proofs.Fuel.{fuel}
use Rattle.lines.specs.Wrote.{Wrote, place_after}
use Rattle.lines.proofs.put.WroteLaws.{wrote_then}
use Rattle.topics.specs.declared.matching.Matching.{Matching}
use Rattle.monitor.specs.Inspect.{applied, result_of}
use Rattle.monitor.specs.Plan.{plan_of}
use Rattle.monitor.specs.Runs.{Call}
use Rattle.monitor.specs.State.{matcher_of}
use Rattle.monitor.specs.declared.plan.Plan.{Plan}
use Rattle.monitor.specs.declared.state.MqttMonitor.{MqttMonitor}
use Rattle.trace.specs.Groups.{message_at, topic_in, payload_in}
use Rattle.trace.specs.Record.{record_text, closing_text}
use Rattle.trace.specs.Trace.{Messages, Loaded, ended_by, sent_first, planned, loaded_as, loaded, messages_from, messages_of, text_from, trace_text, enough, put_if, whole_end}
use Rattle.trace.specs.declared.groups.MessageLines.{MessageLines}
use Rattle.trace.specs.declared.reading.Place.{Place}
use Rattle.trace.specs.declared.reading.Stop.{Stop}
use Rattle.trace.specs.declared.run.TraceEnd.{TraceEnd}
use Rattle.trace.proofs.Bound.{loaded_few, loaded_short, trace_enough}
use Rattle.trace.proofs.groups.GroupLaws.{message_further}

-- a message that was read ends further on
pub read_further : (s : List ℕ) (at : ℕ) {r : MessageLines} → r ≡ message_at s at → r.number ≡ 0 → at + 44 ≤ r.next
read_further s at e z = rw e (message_further s at (rw e at z))

-- any count of messages that is more than the bytes left gives the same
enough_turns : (s : List ℕ) (k j : ℕ) (at line : ℕ) → length s - at < k → length s - at < j → messages_from k s at line ≡ messages_from j s at line
unfolding messages_from
enough_turns s k j at line h g =
    fuel {S = ℕ × ℕ} (λ p. length s - p.0) (λ k p. messages_from k s p.0 p.1)
    (λ k j p rec.
    by (leb (length s) p.0) (λ t. rw t)
    (λ t.
    let l : p.0 < length s = leb-false _ _ t in
    by (eqb (message_at s p.0).number 0)
    (λ u.
    let f = message_further s p.0 (eqb-true _ _ u) in
    rw (t, u, rec ((message_at s p.0).next, p.1 + 7) (omega arith)))
    (λ u. rw (t, u))))
    k j (at, line) h g

module _ (s : List ℕ) where
  -- the messages that are left at a place
  abbrev pub left : ℕ → ℕ → Messages
  left at line = messages_from (length s + 1) s at line

  -- what they print
  abbrev pub left_text : MqttMonitor → ℕ → ℕ → ℕ → List ℕ
  left_text m n at line = text_from m n (left at line).sent (left at line).number (left at line).line

  -- the message at a place
  abbrev pub sent_at : ℕ → Call
  sent_at at = record { msg = (message_at s at).msg; topic = topic_in s (message_at s at); payload = payload_in s (message_at s at) }

  turn : (k at line : ℕ) → at < length s → (message_at s at).number ≡ 0 → messages_from (suc k) s at line ≡ sent_first (sent_at at) (messages_from k s (message_at s at).next (line + 7))
  unfolding messages_from
  turn k at line h z = rw (lt-leb _ _ h, eq-eqb _ _ z)

  more : (at line : ℕ) → left at line ≡ messages_from (suc (length s)) s at line
  more at line = ap (λ (k : ℕ). messages_from k s at line) (add-one (length s))

  pub left_turn : (at line : ℕ) → at < length s → (message_at s at).number ≡ 0 → left at line ≡ sent_first (sent_at at) (left (message_at s at).next (line + 7))
  left_turn at line h z =
      let f = message_further s at z in
      more at line ∙ turn (length s) at line h z
      ∙ ap (sent_first (sent_at at)) (enough_turns s (length s) (length s + 1) (message_at s at).next (line + 7) (omega arith) (omega arith))

  text_turn : (m : MqttMonitor) (n at line : ℕ) → at < length s → (message_at s at).number ≡ 0
      → left_text m n at line ≡ record_text n (result_of (planned m (sent_at at))) ++ left_text (applied m (planned m (sent_at at))) (n + 1) (message_at s at).next (line + 7)
  unfolding text_from
  text_turn m n at line h z = rw (left_turn at line h z)

  none : (k at line : ℕ) → length s ≤ at → messages_from (suc k) s at line ≡ ended_by 0 line
  unfolding messages_from
  none k at line h = rw (le-leb _ _ h)

  stops : (k at line : ℕ) {r : MessageLines} → at < length s → r ≡ message_at s at → (r.number ≡ 0 → ⊥) → messages_from (suc k) s at line ≡ ended_by r.number (line + 1 + r.line)
  unfolding messages_from
  stops k at line h e z = rw (← e, lt-leb _ _ h, ne_eqb _ _ z)

  -- none is left at the text's end
  pub left_end : {at : ℕ} (line : ℕ) → length s ≤ at → left at line ≡ ended_by 0 line
  left_end {at} line h = more at line ∙ none (length s) at line h

  -- nor after a refused line
  pub left_stop : {at : ℕ} (line : ℕ) {r : MessageLines} → at < length s → r ≡ message_at s at → (r.number ≡ 0 → ⊥) → left at line ≡ ended_by r.number (line + 1 + r.line)
  left_stop {at} line h e z = more at line ∙ stops (length s) at line h e z

  -- what a message that was read does, by what its reader and the plan handed back
  pub plan_sent : (at : ℕ) (m : MqttMonitor) {r : MessageLines} {topic payload : List ℕ} {plan : Plan} → r ≡ message_at s at → topic ≡ topic_in s r
      → payload ≡ payload_in s r → plan ≡ plan_of (matcher_of m) m r.msg topic payload → plan ≡ planned m (sent_at at)
  plan_sent at m e t p q = rw (t, p, e) at q

-- a text after another
pub put_then : (write : Bool) (d : List ℕ) (at : ℕ) (t u : List ℕ) → (write ≡ true → at + length t ≤ length d)
    → put_if write (put_if write d at t) (at + length t) u ≡ put_if write d at (t ++ u)
put_then true d at t u h =
    let w : Wrote d (sets d at t) at t (at + length t) = record { next = omega (arith, h refl); bytes = refl } in
    let v : Wrote (sets d at t) (sets (sets d at t) (at + length t) u) (at + length t) u (place_after (length (sets d at t)) (at + length t) (length u)) = record { next = refl; bytes = refl } in
    (wrote_then w v).bytes
put_then false d at t u h = refl

pub put_long : (write : Bool) (d : List ℕ) (at : ℕ) (t : List ℕ) → length (put_if write d at t) ≡ length d
put_long true d at t = length-sets d at t
put_long false d at t = refl

-- a pass stands at a place of the text, after so many lines, with the n-th message to come: `d` is its buffer, `p` its place there, and `m` the monitor
pub record Going (matching : Matching) (s : List ℕ) (write : Bool) (d₀ d : List ℕ) (m : MqttMonitor) (n at line p : ℕ) : Type 0 where
  pub short : length s ≤ 65536
  pub lines : line ≤ 130 + at
  pub ordinal : n ≤ at + 1
  pub long : length d ≡ length d₀
  pub count : p + length (left_text s m n at line) ≡ length (trace_text matching s)
  pub bytes : put_if write d p (left_text s m n at line) ≡ put_if write d₀ 0 (trace_text matching s)
  pub number : (left s at line).number ≡ (messages_of matching s).number
  pub last : (left s at line).line ≡ (messages_of matching s).line

pub loaded_messages : (matching : Matching) (s : List ℕ) → let l = loaded matching s in l.number ≡ 0 → messages_of matching s ≡ left s l.next l.line
unfolding messages_of
loaded_messages matching s z = rw (eq-eqb _ _ z)

module _ (matching : Matching) (s : List ℕ) {m : MqttMonitor} where
  -- a pass takes the messages from the place after the rules
  pub going_start : {place : Place} → loaded_as (Ok place) m ≡ loaded matching s → (write : Bool) (d : List ℕ) → Going matching s write d d m 1 place.next place.line 0
  unfolding trace_text
  going_start {place} e write d =
      let y : (loaded matching s).number ≡ 0 = ap (λ (l : Loaded). l.number) (sym e) in
      let t = rw (← e) at (loaded_messages matching s y) in
      record {
        short = loaded_short matching s y;
        lines = omega (arith, rw (← e) at (loaded_few matching s).line);
        ordinal = omega arith;
        long = refl;
        count = rw (t, ← e) (omega arith);
        bytes = rw (t, ← e);
        number = rw t;
        last = rw t;
      }

  -- where the rules were not loaded, a trace has only its closing lines
  module _ (stop : Stop) (e : loaded_as (Err stop) m ≡ loaded matching s) where
    refused : stop.number ≡ 0 → ⊥
    refused z = omega (arith, z, stop.refused)

    pub unloaded_messages : messages_of matching s ≡ ended_by stop.number stop.line
    unfolding messages_of
    unloaded_messages = rw (← e, ne_eqb _ _ refused)

    pub unloaded_text : trace_text matching s ≡ closing_text stop.number stop.line m.total_inspected m.total_alerts
    unfolding trace_text text_from
    unloaded_text = rw (unloaded_messages, ← e)

    pub unloaded_end : {r : TraceEnd}
        → r ≡ record { number = stop.number; line = stop.line; length = 0 + length (closing_text stop.number stop.line m.total_inspected m.total_alerts) }
        → r ≡ whole_end matching s
    unloaded_end q =
        let c : 0 + length (trace_text matching s) ≡ length (trace_text matching s) = omega arith in
        q ∙ rw (← unloaded_text, c, unloaded_messages)

module _ {matching : Matching} {s : List ℕ} {write : Bool} {d₀ d : List ℕ} {m : MqttMonitor} {n at line p : ℕ} (g : Going matching s write d₀ d m n at line p) where
  -- its place is one of a buffer that is enough
  pub going_small : p ≤ enough
  going_small = omega (arith, g.count, trace_enough matching s)

  module _ (ok : write ≡ true → length (trace_text matching s) ≤ length d₀) where
    -- a message that was read
    module _ (h : at < length s) {r : MessageLines} (e : r ≡ message_at s at) (z : r.number ≡ 0) {plan : Plan} (q : plan ≡ planned m (sent_at s at)) where
      here : left_text s m n at line ≡ record_text n (result_of plan) ++ left_text s (applied m plan) (n + 1) r.next (line + 7)
      here = rw (q, e) (text_turn s m n at line h (rw e at z))

      -- there is room for its lines
      pub turn_room : write ≡ true → p + length (record_text n (result_of plan)) ≤ length d
      turn_room w = omega (arith, ok w, g.count, g.long, simp length-append at (ap length here))

      -- the pass goes on after it
      pub going_turn : {m' : MqttMonitor} {e' : List ℕ} {p' : ℕ} → m' ≡ applied m plan → p' ≡ p + length (record_text n (result_of plan))
          → e' ≡ put_if write d p (record_text n (result_of plan)) → Going matching s write d₀ e' m' (n + 1) r.next (line + 7) p'
      going_turn me pe ee =
          let f = message_further s at (rw e at z) in
          let k = left_turn s at line h (rw e at z) in
          let next : (message_at s at).next ≡ r.next = ap (λ (x : MessageLines). x.next) (sym e) in
          rw (me, pe, ee)
          (record {
            short = g.short;
            lines = omega (arith, g.lines, f, next);
            ordinal = omega (arith, g.ordinal, f, next);
            long = put_long write d p (record_text n (result_of plan)) ∙ g.long;
            count = omega (arith, g.count, simp length-append at (ap length here));
            bytes = put_then write d p (record_text n (result_of plan)) _ turn_room ∙ (rw here at g.bytes);
            number = rw (← next) (sym (ap (λ (x : Messages). x.number) k) ∙ g.number);
            last = rw (← next) (sym (ap (λ (x : Messages). x.line) k) ∙ g.last);
          })

    -- no message is left: the closing lines
    module _ {number last : ℕ} (q : left s at line ≡ ended_by number last) where
      close_text : left_text s m n at line ≡ closing_text number last m.total_inspected m.total_alerts
      unfolding text_from
      close_text = rw q

      pub close_room : write ≡ true → p + length (closing_text number last m.total_inspected m.total_alerts) ≤ length d
      close_room w = omega (arith, ok w, g.count, g.long, ap length close_text)

      pub close_end : {r : TraceEnd}
          → r ≡ record { number = number; line = last; length = p + length (closing_text number last m.total_inspected m.total_alerts) } → r ≡ whole_end matching s
      close_end e =
          let a : number ≡ (messages_of matching s).number = ap (λ (x : Messages). x.number) (sym q) ∙ g.number in
          let b : last ≡ (messages_of matching s).line = ap (λ (x : Messages). x.line) (sym q) ∙ g.last in
          let c : p + length (closing_text number last m.total_inspected m.total_alerts) ≡ length (trace_text matching s) = rw close_text at g.count in
          e ∙ rw (c, a, b)

      pub close_bytes : {e : List ℕ} → e ≡ put_if write d p (closing_text number last m.total_inspected m.total_alerts) → e ≡ put_if write d₀ 0 (trace_text matching s)
      close_bytes e = e ∙ (rw close_text at g.bytes)
