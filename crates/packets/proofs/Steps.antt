-- Stepping through a packet that is not refused gives its messages: of a list, each step is the place of the next filter, and every filter is good and short; any other packet has one piece.
-- Assumes nothing.
use mathlib.Core.Bool.{Bool, true, false, ◌&&◌}
use mathlib.Core.List.{List, [], ◌∷◌, map}
use mathlib.Core.Path.{◌≡◌, refl, sym, ◌∙◌, ap}
use Prim.Native.Nat.{ℕ, zero, suc, ◌+◌, ◌-◌, ◌*◌, ◌≤◌, ◌<◌}
use native.Mathlib.Omega.{arith}
use lib.Dec.{eqb, ltb, leb}
use lib.ListN.{length, drop, length-map, length-take}
use borrow.Author.Tests.{eqb-true, ltb-true, ltb-false}
use Rattle.laws.specs.Lists.{every, some}
use Rattle.laws.proofs.Cases.{by, choose, clash}
use Rattle.laws.proofs.Tests.{both, either, neither}
use Rattle.monitor.specs.Message.{type_number, type_at}
use Rattle.packets.specs.Bodies.{is_list, body_built, piece_at, first_step, pieces_of}
use Rattle.packets.specs.Fields.{begin, number_field}
use Rattle.packets.specs.Filters.{list_built, filter_at, filters_of, walk}
use Rattle.packets.specs.Header.{length_at, type_of, flags_of, body_from, size_of, body_in, header_refusal}
use Rattle.packets.specs.Messages.{sent_from, message_from, message_for, message_at, messages_of, messages_at, ToldMessage}
use Rattle.packets.specs.Packet.{packet_at}
use Rattle.packets.specs.Piece.{good_piece, is_long, ToldPiece}
use Rattle.packets.specs.Publish.{identified}
use Rattle.packets.specs.Steps.{stepped, is_listed, Steps}
use Rattle.packets.proofs.filters.WalkLaws.{filter_in, filter_further, left_turn, left_last}
use Rattle.packets.proofs.header.LengthLaws.{length_small}
use Rattle.packets.proofs.messages.MessageLaws.{piece_fine}
use Rattle.packets.proofs.packet.AcceptedLaws.{Accepted, accepted, length_is, messages_are, header_there, length_some}

-- a piece that was read and is not long
abbrev Fit : ToldPiece → Type 0
Fit p = (p.fine ≡ true) × (p.to - p.from ≤ 128)

fit : (b : List ℕ) (p : ToldPiece) → good_piece b p ≡ true → is_long p ≡ false → Fit p
unfolding good_piece
fit b p g l = ((both p.fine _ g).0, ltb-false _ _ l)

-- a first message, and those behind it
joined : {x y : ToldMessage} (behind : ℕ → List ToldMessage) {ms : List ToldMessage} → x ≡ y → behind y.next ≡ ms → x ∷ behind x.next ≡ y ∷ ms
joined {y = y} behind e g = rw e (ap (λ (r : List ToldMessage). y ∷ r) g)

-- a list that was found good has a filter behind its identifier
list_built_lem : (kind flags : ℕ) (b : List ℕ) → is_list kind ≡ true → body_built kind flags b ≡ true → list_built flags b ≡ true
unfolding body_built
list_built_lem kind flags b l =
    either (eqb kind 8) (eqb kind 10) l (λ e. let k : kind ≡ 8 = eqb-true _ _ e in rw k (λ t. t)) (λ e. let k : kind ≡ 10 = eqb-true _ _ e in rw k (λ t. t))

list_long : (flags : ℕ) (b : List ℕ) → list_built flags b ≡ true → 2 < length b
unfolding list_built
list_long flags b e = ltb-true 2 (length b) (both (eqb flags 2 && identified true (number_field b (begin 0))) (ltb 2 (length b)) e).1

-- of a list the piece at a step is the filter there
list_piece : (kind flags : ℕ) (b : List ℕ) (step : ℕ) → is_list kind ≡ true → piece_at kind flags b step ≡ filter_at (eqb kind 8) b step
unfolding piece_at
list_piece kind flags b step l =
    either (eqb kind 8) (eqb kind 10) l (λ e. let k : kind ≡ 8 = eqb-true _ _ e in rw k) (λ e. let k : kind ≡ 10 = eqb-true _ _ e in rw k)

-- filters that are good take two bytes each
walk_few : (subscribe : Bool) (b : List ℕ) (k at : ℕ) → every (good_piece b) (walk (filter_at subscribe b) k (length b) at) ≡ true
    → length (walk (filter_at subscribe b) k (length b) at) * 2 ≤ length b - at
unfolding walk every good_piece
walk_few subscribe b zero at = λ _. omega arith
walk_few subscribe b (suc k) at =
    let read : ℕ → ToldPiece = filter_at subscribe b in
    let i = filter_in subscribe b at in
    choose (λ (ps : List ToldPiece). every (good_piece b) ps ≡ true → length ps * 2 ≤ length b - at) (leb (length b) at) (λ _ _. omega arith)
    (λ _.
    choose (λ (ps : List ToldPiece). every (good_piece b) (read at ∷ ps) ≡ true → length (read at ∷ ps) * 2 ≤ length b - at) (read at).fine
    (λ u g. let h = walk_few subscribe b k (read at).next (both (good_piece b (read at)) _ g).1 in omega (arith, i.further u, i.lies.after, h))
    (λ u g. clash (both (read at).fine _ (both (good_piece b (read at)) true g).0).0 u))

-- the type of a list, as a message has it
listed_back : (kind : ℕ) → is_list kind ≡ true → is_list (type_number (type_at kind)) ≡ true
listed_back kind l =
    either (eqb kind 8) (eqb kind 10) l (λ e. let k : kind ≡ 8 = eqb-true _ _ e in rw k) (λ e. let k : kind ≡ 10 = eqb-true _ _ e in rw k)

each_listed : (f : ToldPiece → ToldMessage) → ((p : ToldPiece) → is_listed (f p) ≡ true) → (ps : List ToldPiece) → every is_listed (map f ps) ≡ true
unfolding every
each_listed f z [] = refl
each_listed f z (p ∷ ps) = rw (z p) (each_listed f z ps)

module _ (s : List ℕ) (place now_us : ℕ) (ok : Bool) where
  abbrev bytes : List ℕ
  bytes = drop place s

  abbrev kind : ℕ
  kind = type_of bytes

  abbrev body : List ℕ
  body = body_in bytes

  abbrev sent : ToldPiece → ToldMessage
  sent p = sent_from kind (length_at bytes 1).value (place + body_from bytes) now_us ok p

  module _ (h : header_refusal bytes ≡ 0) where
    -- the message of a piece that was read and is not long
    one_message : (step : ℕ) {p : ToldPiece} → piece_at kind (flags_of bytes) body step ≡ p → Fit p → message_at s place step now_us ok ≡ sent p
    unfolding message_for message_from
    one_message step {p} e f = rw (h, e, piece_fine p f.0 f.1)

    module _ (l : is_list kind ≡ true) where
      abbrev read : ℕ → ToldPiece
      read = filter_at (eqb kind 8) body

      -- a walk over filters that are good and short
      walked : (k end at : ℕ) → every (good_piece body) (walk read k end at) ≡ true → some is_long (walk read k end at) ≡ false
          → stepped (length (walk read k end at)) s place at now_us ok ≡ map sent (walk read k end at)
      unfolding walk every some stepped
      walked zero end at = λ g f. refl
      walked (suc k) end at =
          let P : List ToldPiece → Type 0 = λ (ps : List ToldPiece).
          every (good_piece body) ps ≡ true → some is_long ps ≡ false → stepped (length ps) s place at now_us ok ≡ map sent ps in
          choose P (leb end at) (λ _ g f. refl)
          (λ _ g f.
          let q = both (good_piece body (read at)) _ g in
          let r = neither (is_long (read at)) _ f in
          let t = fit body (read at) q.0 r.0 in
          let m = one_message at (list_piece kind (flags_of bytes) body at l) t in
          choose (λ (ps : List ToldPiece). every (good_piece body) ps ≡ true → some is_long ps ≡ false
          → message_at s place at now_us ok ∷ stepped (length ps) s place (message_at s place at now_us ok).next now_us ok ≡ sent (read at) ∷ map sent ps)
          (read at).fine
          (λ _ g2 f2. joined (λ (next : ℕ). stepped (length (walk read k end (read at).next)) s place next now_us ok) m (walked k end (read at).next g2 f2))
          (λ u _ _. clash t.0 u)
          q.1 r.1)

  module _ (e : (packet_at s place).number ≡ 0) where
    abbrev a : Accepted bytes
    a = accepted bytes e

    abbrev pieces : List ToldPiece
    pieces = pieces_of kind (flags_of bytes) body

    of_list : is_list kind ≡ true → stepped (length pieces) s place (first_step kind) now_us ok ≡ map sent pieces
    unfolding pieces_of
    of_list l = rw l (walked a.header l (length body + 1) (length body) 2 (rw l at a.good) (rw l at a.short))

    of_one : is_list kind ≡ false → stepped (length pieces) s place (first_step kind) now_us ok ≡ map sent pieces
    unfolding pieces_of stepped every some
    of_one l =
        let p = piece_at kind (flags_of bytes) body 0 in
        let q = both (good_piece body p) true (rw l at a.good) in
        let r = neither (is_long p) false (rw l at a.short) in
        rw (l, one_message a.header 0 refl (fit body p q.0 r.0))

    in_order : stepped (packet_at s place).messages s place (packet_at s place).first now_us ok ≡ messages_at s place now_us ok
    unfolding messages_of
    in_order = let m = messages_are bytes e in rw (m.0, m.1) (by (is_list kind) of_list of_one)

    counted : length (messages_at s place now_us ok) ≡ (packet_at s place).messages
    unfolding messages_of
    counted = length-map pieces sent ∙ sym (messages_are bytes e).0

    -- a list has a filter
    has_one : is_list kind ≡ true → 1 ≤ length (filters_of (eqb kind 8) body)
    has_one l =
        let n : 2 < length body = list_long (flags_of bytes) body (list_built_lem kind (flags_of bytes) body l a.built) in
        let read : ℕ → ToldPiece = filter_at (eqb kind 8) body in
        let more = filter_further (eqb kind 8) body in
        by (read 2).fine (λ u. rw (left_turn read (length body) more 2 n u) (omega arith)) (λ u. rw (left_last read (length body) more 2 n u) (omega arith))

    some_one : 1 ≤ (packet_at s place).messages
    unfolding pieces_of
    some_one = rw (messages_are bytes e).0 (by (is_list kind) (λ l. rw l (has_one l)) (λ l. rw l (omega arith)))

    -- no packet has more messages than half of its bytes
    at_most : (packet_at s place).messages * 2 ≤ (packet_at s place).length
    unfolding pieces_of
    at_most =
        let h = length_some bytes 1 (header_there bytes a.header).0 in
        let b : length body ≤ (length_at bytes 1).value = omega (arith, length-take (size_of bytes - body_from bytes) (drop (body_from bytes) bytes)) in
        rw ((messages_are bytes e).0, length_is bytes e)
        (by (is_list kind) (λ l. rw l (omega (arith, walk_few (eqb kind 8) body (length body + 1) 2 (rw l at a.good), b, h))) (λ l. rw l (omega (arith, h))))

    -- of any but a list there is one
    only_one : is_list kind ≡ false → (packet_at s place).messages ≡ 1
    unfolding pieces_of
    only_one l = rw ((messages_are bytes e).0, l)

    several : ((packet_at s place).messages ≡ 1 → ⊥) → every is_listed (messages_at s place now_us ok) ≡ true
    unfolding messages_of
    several n = by (is_list kind) (λ l. each_listed sent (λ p. listed_back kind l) pieces) (λ l. absurd (n (only_one l)))

-- none of a packet's messages is refused
each_good : (f : ToldPiece → ToldMessage) → ((p : ToldPiece) → (f p).number ≡ 0) → (ps : List ToldPiece) → every (λ m. eqb m.number 0) (map f ps) ≡ true
unfolding every
each_good f z [] = refl
each_good f z (p ∷ ps) = rw (z p) (each_good f z ps)

pub all_good : (s : List ℕ) (place now_us : ℕ) (ok : Bool) → every (λ m. eqb m.number 0) (messages_at s place now_us ok) ≡ true
unfolding messages_of
all_good s place now_us ok = each_good (sent s place now_us ok) (λ p. refl) (pieces_of (type_of (drop place s)) (flags_of (drop place s)) (body_in (drop place s)))

pub steps : Steps
steps =
    record {
      in_order = in_order;
      counted = counted;
      some = λ s place e. some_one s place 0 true e;
      few = λ s place e. at_most s place 0 true e;
      several = several;
    }

-- nor does one have more than this
pub limited : (s : List ℕ) (place : ℕ) → (packet_at s place).number ≡ 0 → (packet_at s place).messages ≤ 134217730
limited s place e =
    let l = length_small (drop place s) 1 in
    omega (arith, steps.few s place e, length_is (drop place s) e, l.bytes, l.value)
