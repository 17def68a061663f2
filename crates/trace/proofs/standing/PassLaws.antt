-- A pass over lines, which writes them or only counts them: what is left to go out (`Passing`) begins with all of it (`passing_start`), goes on behind a part (`passing_turn`), for which there is
-- room (`passing_room`), and ends with nothing left (`passing_done`). Then the lines of each kind, part by part. Assumes nothing.
use Prim.Native.Nat.{ℕ, zero, suc, ◌+◌, ◌^◌, ◌≤◌, ◌<◌}
use mathlib.Core.Bool.{Bool, true, false}
use mathlib.Core.List.{List, [], ◌∷◌, ◌++◌}
use mathlib.Core.Path.{◌≡◌, refl, ap, ◌∙◌}
use native.Mathlib.Omega.{arith}
use lib.Dec.{eqb, ltb}
use Rattle.std.specs.Prelude.{Err}
use Rattle.laws.proofs.Cases.{by}
use borrow.Author.Tests.{le-leb, lt-leb, lt-ltb, le-ltb}
use lib.ListN.{length, take, drop, get_or, set, length-append}
use lib.Seq.{sets, sets-eq, length-sets, take-append_seam}
use Rattle.slices.specs.Bytes.{bytes}
use Rattle.topics.specs.declared.matching.Matching.{Matching}
use Rattle.lines.specs.Line.{number_line}
use Rattle.lines.specs.Wrote.{Wrote}
use Rattle.lines.proofs.lengths.LineLaws.{number_line-length}
use Rattle.lines.proofs.put.DecimalLaws.{decimal_20}
use Rattle.tables.specs.Buckets.{no_bucket, empty_bucket}
use Rattle.tables.specs.Standing.{oldest_live, oldest_first}
use Rattle.tables.specs.declared.buckets.RateBucket.{RateBucket}
use Rattle.monitor.specs.Message.{type_number}
use Rattle.monitor.specs.Runs.{Call}
use Rattle.monitor.specs.Plan.{gate_in}
use Rattle.monitor.specs.Refusal.{refusal_number}
use Rattle.monitor.specs.Standing.{Left, Outlook, a_publish, standing_with, standing_in, left_in, told_left}
use Rattle.monitor.specs.State.{well_formed, matcher_of}
use Rattle.monitor.specs.declared.refusal.Refusal.{Refusal}
use Rattle.monitor.specs.declared.refusal.Refusal.TheVariants.{TableFull, NotHeld, BadInput, Malformed, NotUtf8}
use Rattle.monitor.specs.declared.message.MqttPacketType.{MqttPacketType}
use Rattle.monitor.specs.declared.state.MqttMonitor.{MqttMonitor}
use Rattle.trace.specs.Groups.{message_at, topic_in}
use Rattle.trace.specs.Seen.{sent_from, seen_in, named_by, is_named}
use Rattle.trace.specs.Standing.{name_text, places_text, topic_text, message_text, topics_text, standing_lines, standing_text, standing_end, standing_kept}
use Rattle.trace.specs.Trace.{put_if}
use Rattle.trace.specs.declared.groups.MessageLines.{MessageLines}
use Rattle.trace.specs.declared.seen.Seen.{Seen}
use Rattle.trace.proofs.run.RunLaws.{put_then, put_long}
use Rattle.trace.proofs.seen.SeenLaws.{sent_read, sent_end, sent_stop, first_messages, first_short}

-- a pass over `total`, which began at `at` of the buffer `d₀`, has `rest` left: `d` is its buffer, `p` its place there
pub record Passing (write : Bool) (d₀ d : List ℕ) (at p : ℕ) (rest total : List ℕ) : Type 0 where
  pub long : length d ≡ length d₀
  pub count : p + length rest ≡ at + length total
  pub bytes : put_if write d p rest ≡ put_if write d₀ at total

pub passing_start : (write : Bool) (d : List ℕ) (at : ℕ) (total : List ℕ) → Passing write d d at at total total
passing_start write d at total = record { long = refl; count = refl; bytes = refl }

module _ {write : Bool} {d₀ d : List ℕ} {at p : ℕ} {rest total : List ℕ} (g : Passing write d₀ d at p rest total) where
  -- a part of it and what is left then
  module _ (part further : List ℕ) (e : rest ≡ part ++ further) (ok : write ≡ true → at + length total ≤ length d₀) where
    pub passing_room : write ≡ true → p + length part ≤ length d
    passing_room w = omega (arith, ok w, g.count, g.long, simp length-append at (ap length e))

    pub passing_turn : {p' : ℕ} {d' : List ℕ} → p' ≡ p + length part → d' ≡ put_if write d p part → Passing write d₀ d' at p' further total
    passing_turn pe de =
        rw (pe, de)
        (record {
          long = put_long write d p part ∙ g.long;
          count = omega (arith, g.count, simp length-append at (ap length e));
          bytes = put_then write d p part further passing_room ∙ (rw e at g.bytes);
        })

  -- nothing is left
  module _ (e : rest ≡ []) where
    pub passing_done : p ≡ at + length total
    passing_done = omega (arith, rw e at g.count)

    pub passing_bytes : d ≡ put_if write d₀ at total
    passing_bytes = nothing write ∙ (rw e at g.bytes)
      where
        nothing : (w : Bool) → d ≡ put_if w d p []
        nothing true = refl
        nothing false = refl

-- the last part of lines, and nothing after it
pub last_part : (t : List ℕ) → t ≡ t ++ []
last_part [] = refl
last_part (b ∷ t) = ap (λ (l : List ℕ). b ∷ l) (last_part t)

-- lines that were written from the beginning of a buffer with room for them are its first bytes
pub wrote_whole : {d e t : List ℕ} {n : ℕ} → Wrote d e 0 t n → length t ≤ length d → (n ≡ length t) × (take n e ≡ t) × (n ≤ length e)
wrote_whole {d} {e} {t} {n} w h =
    let l : n ≡ length t = omega (arith, w.next) in
    (l, rw (l, w.bytes) (ap (take (length t)) (sets-eq t d 0 (omega (arith, h))) ∙ take-append_seam t (drop (0 + length t) d)), rw w.bytes (omega (arith, length-sets d 0 t)))

-- the head is short
pub head_short : (last count : ℕ) → last < 2 ^ 64 → count < 2 ^ 64 → length (number_line (bytes "last=") last ++ number_line (bytes "taken=") count) ≤ 53
head_short last count h g =
    rw length-append
    (omega (arith, number_line-length (bytes "last=") last, number_line-length (bytes "taken=") count, decimal_20 last h, decimal_20 count g))

-- the places that are taken: the oldest of those that are left, and the others
module _ (calls : List Call) (bs : List RateBucket) (less : ℕ) {left at : ℕ} (more : less + 1 ≡ left) (oldest : at ≡ oldest_live bs) where
  again : left ≡ suc less
  again = omega arith

  pub places_turn : at < length bs → {name : List ℕ} → name ≡ named_by calls (get_or bs at no_bucket).id
      → places_text calls (oldest_first left bs) ≡ name_text (bytes "place=") name ++ places_text calls (oldest_first less (set bs at empty_bucket))
  unfolding places_text oldest_first
  places_turn h n =
      let g : oldest_live bs < length bs = omega arith in
      ap (λ (k : ℕ). places_text calls (oldest_first k bs)) again ∙ (rw (lt-ltb _ _ g, n, oldest))

  pub places_stop : length bs ≤ at → places_text calls (oldest_first left bs) ≡ []
  unfolding places_text oldest_first
  places_stop h =
      let g : length bs ≤ oldest_live bs = omega arith in
      ap (λ (k : ℕ). places_text calls (oldest_first k bs)) again ∙ (rw (le-ltb _ _ g))

pub places_none : (calls : List Call) (bs : List RateBucket) {left : ℕ} → left ≤ 0 → places_text calls (oldest_first left bs) ≡ []
unfolding places_text oldest_first
places_none calls bs {left} h = let z : left ≡ zero = omega arith in ap (λ (k : ℕ). places_text calls (oldest_first k bs)) z

-- a message's lines, by the tests: it is a Publish, the limiter counts it, no later one names its topic
module _ (m : MqttMonitor) (last : ℕ) (type : MqttPacketType) (topic : List ℕ) (later : List Call) {publish : Bool} (is : publish ≡ eqb (type_number type) 3) where
  pub quiet_type : publish ≡ false → message_text m last type topic later ≡ []
  quiet_type z = rw (← is, z)

  module _ (e : publish ≡ true) {o : Outlook} (stands : o ≡ standing_in m topic) where
    pub quiet_rate : o.rate ≡ 0 → message_text m last type topic later ≡ []
    quiet_rate z = rw (← is, e, ← stands, z)

    module _ (r : 0 < o.rate) {named : Bool} (told : named ≡ is_named later topic) where
      pub quiet_named : named ≡ true → message_text m last type topic later ≡ []
      quiet_named y = rw (← is, e, ← stands, lt-ltb 0 o.rate r, ← told, y)

      pub told_topic : named ≡ false → {l : Left} → l ≡ left_in m topic last → message_text m last type topic later ≡ topic_text topic o l last
      told_topic y q = rw (← is, e, ← stands, lt-ltb 0 o.rate r, ← told, y, ← q)

-- whoever the limiter counts is told what is left
pub left_told : (m : MqttMonitor) (topic : List ℕ) (t : ℕ) → 0 < (standing_in m topic).rate → (left_in m topic t).number ≡ 0
unfolding standing_with left_in
left_told m topic t =
    by (well_formed m)
    (λ w.
    by (ltb 128 (length topic)) (λ l. rw (w, l) (λ h. absurd (omega (arith, h))))
    (λ l. let g = gate_in (matcher_of m) m a_publish topic in by (ltb 0 g.denial) (λ d. rw (w, l, d) (λ h. refl)) (λ d. rw (w, l, d) (λ h. refl))))
    (λ w. rw w (λ h. absurd (omega (arith, h))))

refusal_real : (e : Refusal) → 1 ≤ refusal_number e
refusal_real TableFull = omega arith
refusal_real NotHeld = omega arith
refusal_real BadInput = omega arith
refusal_real Malformed = omega arith
refusal_real NotUtf8 = omega arith

pub not_refused : (m : MqttMonitor) (topic : List ℕ) (t : ℕ) (e : Refusal) {o : Outlook} → o ≡ standing_in m topic → 0 < o.rate → told_left (Err e) ≡ left_in m topic t → ⊥
not_refused m topic t e s h q =
    let r = refusal_real e in
    let n = ap (λ (l : Left). l.number) q in
    let z = left_told m topic t (rw s at h) in
    omega (arith, r, n, z)

-- nothing goes out
pub nothing_out : (write : Bool) (d : List ℕ) (at : ℕ) {t : List ℕ} → t ≡ [] → (at ≡ at + length t) × (d ≡ put_if write d at t)
nothing_out true d at e = rw e (omega arith, refl)
nothing_out false d at e = rw e (omega arith, refl)

-- the topics: those of a message that was read, and those of the messages after it
module _ (m : MqttMonitor) (last : ℕ) (s : List ℕ) {at : ℕ} where
  pub topics_turn : {r : MessageLines} {name : List ℕ} → at < length s → r ≡ message_at s at → r.number ≡ 0 → name ≡ topic_in s r
      → topics_text m last (sent_from s at) ≡ message_text m last r.msg.packet_type name (sent_from s r.next) ++ topics_text m last (sent_from s r.next)
  unfolding topics_text
  topics_turn h e z n = rw (sent_read s h e z, n, e)

  pub topics_stop : {r : MessageLines} → at < length s → r ≡ message_at s at → (r.number ≡ 0 → ⊥) → topics_text m last (sent_from s at) ≡ []
  unfolding topics_text
  topics_stop h e z = rw (sent_stop s h e z)

  pub topics_end : length s ≤ at → topics_text m last (sent_from s at) ≡ []
  unfolding topics_text
  topics_end h = rw (sent_end s h)

-- the lines of what was seen of a trace are the trace's
module _ (matching : Matching) (s : List ℕ) {seen : Seen} (e : seen ≡ seen_in matching s) where
  pub standing_seen : standing_lines seen.monitor seen.last (sent_from s seen.first) ≡ standing_text matching s
  standing_seen = rw (e, first_messages matching s)

  pub seen_short : seen.first < length s → length s ≤ 65536
  seen_short h = first_short matching s (rw e at h)

  -- how it ends, by the room
  pub stands_whole : {room n : ℕ} → n ≡ length (standing_text matching s) → n ≤ room → record { number = seen.number; line = seen.line; length = n } ≡ standing_end matching room s
  unfolding standing_end
  stands_whole {room} q h = let g : length (standing_text matching s) ≤ room = omega arith in rw (le-leb _ _ g, q, e)

  pub kept_whole : (d : List ℕ) {n : ℕ} {t : List ℕ} → t ≡ standing_text matching s → n ≡ length (standing_text matching s) → n ≤ length d
      → {e' : List ℕ} → e' ≡ sets d 0 t → e' ≡ standing_kept matching d s
  unfolding standing_kept
  kept_whole d t q h k = let g : length (standing_text matching s) ≤ length d = omega arith in rw (le-leb _ _ g, ← t) k

pub stands_28 : (matching : Matching) (s : List ℕ) {room n : ℕ} → n ≡ length (standing_text matching s) → room < n → record { number = 28; line = 0; length = 0 } ≡ standing_end matching room s
unfolding standing_end
stands_28 matching s {room} q h = let g : room < length (standing_text matching s) = omega arith in rw (lt-leb _ _ g)

pub kept_28 : (matching : Matching) (s d : List ℕ) {n : ℕ} → n ≡ length (standing_text matching s) → length d < n → d ≡ standing_kept matching d s
unfolding standing_kept
kept_28 matching s d q h = let g : length d < length (standing_text matching s) = omega arith in rw (lt-leb _ _ g)
