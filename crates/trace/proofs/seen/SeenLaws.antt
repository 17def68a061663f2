-- The messages from a place of a trace on, as a loop that reads them takes them: one of them and those after it (`sent_turn`), none at the text's end (`sent_end`), none after a refused line
-- (`sent_stop`); they are those of the trace from its first place on (`first_messages`). What a loop looks for is then found here, or among the others. Assumes nothing.
use Prim.Native.Nat.{ℕ, zero, suc, ◌+◌, ◌≤◌, ◌<◌}
use mathlib.Core.Path.{◌≡◌, refl, sym, ap, ◌∙◌}
use mathlib.Core.Bool.{Bool, true, false, ◌&&◌}
use mathlib.Core.List.{List, [], ◌∷◌}
use Rattle.std.specs.Prelude.{Result, Ok, Err}
use native.Mathlib.Omega.{arith}
use lib.Dec.{eqb, leb}
use lib.ListN.{length}
use borrow.Author.Tests.{eqb-true, ne_eqb}
use Rattle.laws.proofs.Cases.{by}
use Rattle.slices.specs.Bytes.{same}
use Rattle.topics.specs.declared.matching.Matching.{Matching}
use Rattle.tables.specs.Identity.{id_of, is_of}
use Rattle.tables.specs.declared.identity.Id.{Id}
use Rattle.monitor.specs.Inspect.{inspect_with, inspected_as}
use Rattle.monitor.specs.Message.{type_number}
use Rattle.monitor.specs.Runs.{Call, shipped, after_by}
use Rattle.monitor.specs.State.{matcher_of}
use Rattle.monitor.specs.Ended.{Inspected}
use Rattle.monitor.specs.declared.inspection.Inspection.{Inspection}
use Rattle.monitor.specs.declared.refusal.Refusal.{Refusal}
use Rattle.monitor.specs.declared.state.MqttMonitor.{MqttMonitor}
use Rattle.trace.specs.Groups.{message_at, topic_in, payload_in}
use Rattle.trace.specs.Seen.{sent_from, first_place, last_time, end_state, seen_in, named_by, is_publish, is_named}
use Rattle.trace.specs.Trace.{Messages, Loaded, ended_by, loaded_as, loaded, messages_from, messages_of}
use Rattle.trace.specs.declared.groups.MessageLines.{MessageLines}
use Rattle.trace.specs.declared.reading.Place.{Place}
use Rattle.trace.specs.declared.reading.Stop.{Stop}
use Rattle.trace.proofs.Bound.{loaded_few, loaded_short}
use Rattle.trace.proofs.groups.GroupLaws.{message_further}
use Rattle.trace.proofs.run.RunLaws.{left, left_turn, left_end, left_stop, sent_at, loaded_messages, unloaded_messages}

-- which messages there are does not depend on how many lines came before them
messages_alike : (k : ℕ) (s : List ℕ) (at line other : ℕ) → (messages_from k s at line).sent ≡ (messages_from k s at other).sent
unfolding messages_from
messages_alike zero s at line other = refl
messages_alike (suc k) s at line other =
    by (leb (length s) at) (λ t. rw t)
    (λ t.
    by (eqb (message_at s at).number 0)
    (λ u. rw (t, u) (ap (λ (xs : List Call). sent_at s at ∷ xs) (messages_alike k s (message_at s at).next (line + 7) (other + 7))))
    (λ u. rw (t, u)))

module _ (s : List ℕ) where
  pub sent-line : (at line : ℕ) → (left s at line).sent ≡ sent_from s at
  sent-line at line = messages_alike (length s + 1) s at line 0

  -- a message that is read, and those after it
  pub sent_turn : (at : ℕ) → at < length s → (message_at s at).number ≡ 0 → sent_from s at ≡ sent_at s at ∷ sent_from s (message_at s at).next
  sent_turn at h z =
      ap (λ (ms : Messages). ms.sent) (left_turn s at 0 h z) ∙ ap (λ (xs : List Call). sent_at s at ∷ xs) (sent-line (message_at s at).next (0 + 7))

  -- the same, by what its reader handed back
  pub sent_read : {at : ℕ} {r : MessageLines} → at < length s → r ≡ message_at s at → r.number ≡ 0 → sent_from s at ≡ sent_at s at ∷ sent_from s r.next
  sent_read {at} h e z = rw e (sent_turn at h (rw e at z))

  -- none at the text's end
  pub sent_end : {at : ℕ} → length s ≤ at → sent_from s at ≡ []
  sent_end h = ap (λ (ms : Messages). ms.sent) (left_end s 0 h)

  -- none after a refused line
  pub sent_stop : {at : ℕ} {r : MessageLines} → at < length s → r ≡ message_at s at → (r.number ≡ 0 → ⊥) → sent_from s at ≡ []
  sent_stop h e z = ap (λ (ms : Messages). ms.sent) (left_stop s 0 h e z)

-- the messages of a trace are those from its first place on
pub first_messages : (matching : Matching) (s : List ℕ) → sent_from s (first_place matching s) ≡ (messages_of matching s).sent
unfolding first_place messages_of
first_messages matching s =
    by (eqb (loaded matching s).number 0)
    (λ t. rw t (sym (sent-line s (loaded matching s).next (loaded matching s).line)))
    (λ t. rw t (sent_end s (omega arith)))

-- where there is one, the text is not too long
pub first_short : (matching : Matching) (s : List ℕ) → first_place matching s < length s → length s ≤ 65536
unfolding first_place
first_short matching s =
    by (eqb (loaded matching s).number 0)
    (λ t h. loaded_short matching s (eqb-true _ _ t))
    (λ t h. absurd (omega (arith, rw t at h)))

-- the first of the messages from a place on that has an identity: `b` is what was learnt of the one that is read
module _ (s : List ℕ) (held : Id) {at : ℕ} {r : MessageLines} (h : at < length s) (e : r ≡ message_at s at) where
  -- a refused line: none
  pub named_stop : (r.number ≡ 0 → ⊥) → [] ≡ named_by (sent_from s at) held
  unfolding named_by
  named_stop z = rw (sent_stop s h e z)

  module _ (z : r.number ≡ 0) {topic : List ℕ} (t : topic ≡ topic_in s r) {id : Id} (i : id ≡ id_of topic) {b : Bool} (o : b ≡ is_of id held) where
    asked : is_of (id_of (sent_at s at).topic) held ≡ b
    asked = rw (o, i, t, e)

    -- it has it
    pub named_here : b ≡ true → topic ≡ named_by (sent_from s at) held
    unfolding named_by
    named_here y = rw (sent_read s h e z, asked, y, t, e)

    -- one after it has, or none
    pub named_further : b ≡ false → named_by (sent_from s r.next) held ≡ named_by (sent_from s at) held
    unfolding named_by
    named_further y = rw (sent_read s h e z, asked, y)

pub named_end : (s : List ℕ) (held : Id) {at : ℕ} → length s ≤ at → [] ≡ named_by (sent_from s at) held
unfolding named_by
named_end s held h = rw (sent_end s h)

-- a Publish among them names a topic
module _ (s topic : List ℕ) {at : ℕ} {r : MessageLines} (h : at < length s) (e : r ≡ message_at s at) where
  pub publish_stop : (r.number ≡ 0 → ⊥) → false ≡ is_named (sent_from s at) topic
  unfolding is_named
  publish_stop z = rw (sent_stop s h e z)

  module _ (z : r.number ≡ 0) {name : List ℕ} (t : name ≡ topic_in s r) {b : Bool} (o : b ≡ (eqb (type_number r.msg.packet_type) 3 && same topic name)) where
    tested : is_publish (sent_at s at) && same topic (sent_at s at).topic ≡ b
    tested = rw (o, t, e)

    -- it is one
    pub publish_here : b ≡ true → true ≡ is_named (sent_from s at) topic
    unfolding is_named
    publish_here y = rw (sent_read s h e z, tested, y)

    -- one after it is, or none
    pub publish_further : b ≡ false → is_named (sent_from s r.next) topic ≡ is_named (sent_from s at) topic
    unfolding is_named
    publish_further y = rw (sent_read s h e z, tested, y)

pub publish_end : (s topic : List ℕ) {at : ℕ} → length s ≤ at → false ≡ is_named (sent_from s at) topic
unfolding is_named
publish_end s topic h = rw (sent_end s h)

-- all messages are inspected: a loop stands at a place of the text, after so many lines, with the monitor that the messages before it left and the time of the last of them
pub record Seeing (matching : Matching) (s : List ℕ) (m : MqttMonitor) (last at line : ℕ) : Type 0 where
  pub short : length s ≤ 65536
  pub lines : line ≤ 130 + at
  pub state : after_by shipped m (sent_from s at) ≡ end_state matching s
  pub time : last_time last (sent_from s at) ≡ last_time 0 (messages_of matching s).sent
  pub number : (left s at line).number ≡ (messages_of matching s).number
  pub ended : (left s at line).line ≡ (messages_of matching s).line

-- it begins with the monitor that is loaded
module _ (matching : Matching) (s : List ℕ) {m : MqttMonitor} where
  module _ {place : Place} (e : loaded_as (Ok place) m ≡ loaded matching s) where
    pub first_is : place.next ≡ first_place matching s
    unfolding first_place
    first_is = rw (← e)

    pub seeing_start : Seeing matching s m 0 place.next place.line
    seeing_start =
        let y : (loaded matching s).number ≡ 0 = ap (λ (l : Loaded). l.number) (sym e) in
        let t = rw (← e) at (loaded_messages matching s y) in
        let sent : sent_from s place.next ≡ (messages_of matching s).sent = sym (ap (λ (ms : Messages). ms.sent) t ∙ sent-line s place.next place.line) in
        record {
          short = loaded_short matching s y;
          lines = omega (arith, rw (← e) at (loaded_few matching s).line);
          state = rw (sent, ← e);
          time = rw sent;
          number = rw t;
          ended = rw t;
        }

  -- where the rules are refused there is no message
  pub unseen : (stop : Stop) → loaded_as (Err stop) m ≡ loaded matching s
      → record { number = stop.number; line = stop.line; first = length s; last = 0; monitor = m } ≡ seen_in matching s
  unfolding first_place last_time after_by
  unseen stop e =
      let z : stop.number ≡ 0 → ⊥ = λ z. omega (arith, z, stop.refused) in
      rw (unloaded_messages matching s stop e, ← e, ne_eqb _ _ z)

-- the state that an inspection leaves
pub inspected_state : (r : Result Inspection Refusal) (m : MqttMonitor) → (inspected_as r m).monitor ≡ m
inspected_state (Ok i) m = refl
inspected_state (Err e) m = refl

module _ {matching : Matching} {s : List ℕ} {m : MqttMonitor} {last at line : ℕ} (g : Seeing matching s m last at line) where
  -- a message that was read is inspected
  pub seeing_turn : at < length s → {r : MessageLines} → r ≡ message_at s at → r.number ≡ 0 → {topic payload : List ℕ} → topic ≡ topic_in s r → payload ≡ payload_in s r
      → {i : Inspected} → i ≡ inspect_with (matcher_of m) m r.msg topic payload → Seeing matching s i.monitor r.msg.timestamp_us r.next (line + 7)
  unfolding after_by last_time
  seeing_turn h {r} e z t p {i} q =
      let f = message_further s at (rw e at z) in
      let k = left_turn s at line h (rw e at z) in
      let n = sent_read s h e z in
      let next : (message_at s at).next ≡ r.next = ap (λ (x : MessageLines). x.next) (sym e) in
      let done : shipped m (sent_at s at) ≡ i = rw (q, t, p, e) in
      record {
        short = g.short;
        lines = omega (arith, g.lines, f, next);
        state = rw (← done) (rw n at g.state);
        time = rw e (rw (n, e) at g.time);
        number = rw (← next) (sym (ap (λ (x : Messages). x.number) k) ∙ g.number);
        ended = rw (← next) (sym (ap (λ (x : Messages). x.line) k) ∙ g.ended);
      }

  -- no message is left
  module _ {number line' : ℕ} (q : left s at line ≡ ended_by number line') where
    none : sent_from s at ≡ []
    none = sym (sent-line s at line) ∙ ap (λ (ms : Messages). ms.sent) q

    pub seeing_end : {first : ℕ} → first ≡ first_place matching s → record { number = number; line = line'; first = first; last = last; monitor = m } ≡ seen_in matching s
    unfolding after_by last_time
    seeing_end o =
        let a : number ≡ (messages_of matching s).number = ap (λ (x : Messages). x.number) (sym q) ∙ g.number in
        let b : line' ≡ (messages_of matching s).line = ap (λ (x : Messages). x.line) (sym q) ∙ g.ended in
        let c : m ≡ end_state matching s = rw none at g.state in
        let d : last ≡ last_time 0 (messages_of matching s).sent = rw none at g.time in
        rw (a, b, c, d, o)
