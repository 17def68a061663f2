-- `trace::standing::pass` meets its contract: the head, the places, a new topic's time and the topics go out one after the other. Assumes nothing.
use mathlib.Core.Bool.{true}
use mathlib.Core.List.{List, [], ◌++◌, append_assoc}
use mathlib.Core.Path.{◌≡◌, refl}
use Prim.Native.Nat.{ℕ, ◌+◌, ◌≤◌}
use native.Mathlib.Omega.{arith}
use lib.ListN.{length}
use Rattle.slices.specs.Bytes.{bytes}
use Rattle.lines.specs.Line.{number_line}
use Rattle.tables.specs.Standing.{opening_new, taken_in, oldest_first}
use Rattle.tables.specs.declared.buckets.RateBucket.{RateBucket}
use Rattle.trace.specs.Seen.{sent_from}
use Rattle.trace.specs.Standing.{opening_text, places_text, topics_text, standing_lines}
use Rattle.trace.proofs.standing.PassLaws.{Passing, passing_start, passing_room, passing_turn, passing_done, passing_bytes, last_part}
use Rattle.trace.proofs.standing.pass.Goals.{After-pass_head-places, After-pass_new-topics, After-pass_places-new, After-taken}
use Rattle.trace.proofs.standing.pass.Goals as goal

abbrev buckets_at_After_pass_new_topics : (c : After-pass_new-topics) → List RateBucket
buckets_at_After_pass_new_topics c = c.args.seen.now.monitor.rate_buckets

abbrev buckets_at_After_pass_places_new : (c : After-pass_places-new) → List RateBucket
buckets_at_After_pass_places_new c = c.args.seen.now.monitor.rate_buckets

abbrev buckets_at_After_pass_head_places : (c : After-pass_head-places) → List RateBucket
buckets_at_After_pass_head_places c = c.args.seen.now.monitor.rate_buckets

abbrev buckets : (c : After-taken) → List RateBucket
buckets c = c.args.seen.now.monitor.rate_buckets

abbrev last_at_After_pass_new_topics : (c : After-pass_new-topics) → ℕ
last_at_After_pass_new_topics c = c.args.seen.now.last

abbrev last_at_After_pass_places_new : (c : After-pass_places-new) → ℕ
last_at_After_pass_places_new c = c.args.seen.now.last

abbrev last_at_After_pass_head_places : (c : After-pass_head-places) → ℕ
last_at_After_pass_head_places c = c.args.seen.now.last

abbrev last : (c : After-taken) → ℕ
last c = c.args.seen.now.last

abbrev head_at_After_pass_new_topics : (c : After-pass_new-topics) → List ℕ
head_at_After_pass_new_topics c = number_line (bytes "last=") (last_at_After_pass_new_topics c) ++ number_line (bytes "taken=") (taken_in (buckets_at_After_pass_new_topics c))

abbrev head_at_After_pass_places_new : (c : After-pass_places-new) → List ℕ
head_at_After_pass_places_new c = number_line (bytes "last=") (last_at_After_pass_places_new c) ++ number_line (bytes "taken=") (taken_in (buckets_at_After_pass_places_new c))

abbrev head_at_After_pass_head_places : (c : After-pass_head-places) → List ℕ
head_at_After_pass_head_places c = number_line (bytes "last=") (last_at_After_pass_head_places c) ++ number_line (bytes "taken=") (taken_in (buckets_at_After_pass_head_places c))

abbrev head : (c : After-taken) → List ℕ
head c = number_line (bytes "last=") (last c) ++ number_line (bytes "taken=") (taken_in (buckets c))

abbrev places_at_After_pass_new_topics : (c : After-pass_new-topics) → List ℕ
places_at_After_pass_new_topics c = places_text (sent_from c.args.text.now c.args.seen.now.first) (oldest_first 32 (buckets_at_After_pass_new_topics c))

abbrev places_at_After_pass_places_new : (c : After-pass_places-new) → List ℕ
places_at_After_pass_places_new c = places_text (sent_from c.args.text.now c.args.seen.now.first) (oldest_first 32 (buckets_at_After_pass_places_new c))

abbrev places_at_After_pass_head_places : (c : After-pass_head-places) → List ℕ
places_at_After_pass_head_places c = places_text (sent_from c.args.text.now c.args.seen.now.first) (oldest_first 32 (buckets_at_After_pass_head_places c))

abbrev places : (c : After-taken) → List ℕ
places c = places_text (sent_from c.args.text.now c.args.seen.now.first) (oldest_first 32 (buckets c))

abbrev new_at_After_pass_new_topics : (c : After-pass_new-topics) → List ℕ
new_at_After_pass_new_topics c = opening_text (bytes "new=") (last_at_After_pass_new_topics c) (opening_new (buckets_at_After_pass_new_topics c))

abbrev new_at_After_pass_places_new : (c : After-pass_places-new) → List ℕ
new_at_After_pass_places_new c = opening_text (bytes "new=") (last_at_After_pass_places_new c) (opening_new (buckets_at_After_pass_places_new c))

abbrev new_at_After_pass_head_places : (c : After-pass_head-places) → List ℕ
new_at_After_pass_head_places c = opening_text (bytes "new=") (last_at_After_pass_head_places c) (opening_new (buckets_at_After_pass_head_places c))

abbrev new : (c : After-taken) → List ℕ
new c = opening_text (bytes "new=") (last c) (opening_new (buckets c))

abbrev topics_at_After_pass_new_topics : (c : After-pass_new-topics) → List ℕ
topics_at_After_pass_new_topics c = topics_text c.args.seen.now.monitor (last_at_After_pass_new_topics c) (sent_from c.args.text.now c.args.seen.now.first)

abbrev topics_at_After_pass_places_new : (c : After-pass_places-new) → List ℕ
topics_at_After_pass_places_new c = topics_text c.args.seen.now.monitor (last_at_After_pass_places_new c) (sent_from c.args.text.now c.args.seen.now.first)

abbrev topics_at_After_pass_head_places : (c : After-pass_head-places) → List ℕ
topics_at_After_pass_head_places c = topics_text c.args.seen.now.monitor (last_at_After_pass_head_places c) (sent_from c.args.text.now c.args.seen.now.first)

abbrev topics : (c : After-taken) → List ℕ
topics c = topics_text c.args.seen.now.monitor (last c) (sent_from c.args.text.now c.args.seen.now.first)

abbrev all_at_After_pass_new_topics : (c : After-pass_new-topics) → List ℕ
all_at_After_pass_new_topics c = standing_lines c.args.seen.now.monitor (last_at_After_pass_new_topics c) (sent_from c.args.text.now c.args.seen.now.first)

abbrev all_at_After_pass_places_new : (c : After-pass_places-new) → List ℕ
all_at_After_pass_places_new c = standing_lines c.args.seen.now.monitor (last_at_After_pass_places_new c) (sent_from c.args.text.now c.args.seen.now.first)

abbrev all_at_After_pass_head_places : (c : After-pass_head-places) → List ℕ
all_at_After_pass_head_places c = standing_lines c.args.seen.now.monitor (last_at_After_pass_head_places c) (sent_from c.args.text.now c.args.seen.now.first)

abbrev all : (c : After-taken) → List ℕ
all c = standing_lines c.args.seen.now.monitor (last c) (sent_from c.args.text.now c.args.seen.now.first)

parts_at_After_pass_new_topics : (c : After-pass_new-topics) → (all_at_After_pass_new_topics c) ≡ (head_at_After_pass_new_topics c) ++
    ((places_at_After_pass_new_topics c) ++ ((new_at_After_pass_new_topics c) ++ (topics_at_After_pass_new_topics c)))
unfolding standing_lines
parts_at_After_pass_new_topics c = rw (append_assoc, append_assoc)

parts_at_After_pass_places_new : (c : After-pass_places-new) → (all_at_After_pass_places_new c) ≡ (head_at_After_pass_places_new c) ++
    ((places_at_After_pass_places_new c) ++ ((new_at_After_pass_places_new c) ++ (topics_at_After_pass_places_new c)))
unfolding standing_lines
parts_at_After_pass_places_new c = rw (append_assoc, append_assoc)

parts_at_After_pass_head_places : (c : After-pass_head-places) → (all_at_After_pass_head_places c) ≡ (head_at_After_pass_head_places c) ++
    ((places_at_After_pass_head_places c) ++ ((new_at_After_pass_head_places c) ++ (topics_at_After_pass_head_places c)))
unfolding standing_lines
parts_at_After_pass_head_places c = rw (append_assoc, append_assoc)

parts : (c : After-taken) → (all c) ≡ (head c) ++ ((places c) ++ ((new c) ++ (topics c)))
unfolding standing_lines
parts c = rw (append_assoc, append_assoc)

begun_at_After_pass_new_topics : (c : After-pass_new-topics) → Passing c.args.write c.args.out.now c.args.out.now 0 0 (all_at_After_pass_new_topics c) (all_at_After_pass_new_topics c)
begun_at_After_pass_new_topics c = passing_start c.args.write c.args.out.now 0 (all_at_After_pass_new_topics c)

begun_at_After_pass_places_new : (c : After-pass_places-new) → Passing c.args.write c.args.out.now c.args.out.now 0 0 (all_at_After_pass_places_new c) (all_at_After_pass_places_new c)
begun_at_After_pass_places_new c = passing_start c.args.write c.args.out.now 0 (all_at_After_pass_places_new c)

begun_at_After_pass_head_places : (c : After-pass_head-places) → Passing c.args.write c.args.out.now c.args.out.now 0 0 (all_at_After_pass_head_places c) (all_at_After_pass_head_places c)
begun_at_After_pass_head_places c = passing_start c.args.write c.args.out.now 0 (all_at_After_pass_head_places c)

begun : (c : After-taken) → Passing c.args.write c.args.out.now c.args.out.now 0 0 (all c) (all c)
begun c = passing_start c.args.write c.args.out.now 0 (all c)

room_at_After_pass_new_topics : (c : After-pass_new-topics) → c.args.write ≡ true → 0 + length (all_at_After_pass_new_topics c) ≤ length c.args.out.now
room_at_After_pass_new_topics c w = omega (arith, c.requires.room w)

room_at_After_pass_places_new : (c : After-pass_places-new) → c.args.write ≡ true → 0 + length (all_at_After_pass_places_new c) ≤ length c.args.out.now
room_at_After_pass_places_new c w = omega (arith, c.requires.room w)

room_at_After_pass_head_places : (c : After-pass_head-places) → c.args.write ≡ true → 0 + length (all_at_After_pass_head_places c) ≤ length c.args.out.now
room_at_After_pass_head_places c w = omega (arith, c.requires.room w)

room : (c : After-taken) → c.args.write ≡ true → 0 + length (all c) ≤ length c.args.out.now
room c w = omega (arith, c.requires.room w)

-- where a pass stands after the head, after the places and after the new topic's time
after_head_at_After_pass_new_topics : (c : After-pass_new-topics) → let given = c.args in
    Passing given.write given.out.now c.pass_head-places.new.out 0 c.pass_head-places.result
    (places_at_After_pass_new_topics c ++ (new_at_After_pass_new_topics c ++ topics_at_After_pass_new_topics c)) (all_at_After_pass_new_topics c)
after_head_at_After_pass_new_topics c =
    let e = rw c.taken.ensures at c.pass_head-places.ensures in
    passing_turn (begun_at_After_pass_new_topics c) (head_at_After_pass_new_topics c)
    (places_at_After_pass_new_topics c ++ (new_at_After_pass_new_topics c ++ topics_at_After_pass_new_topics c))
    (parts_at_After_pass_new_topics c) (room_at_After_pass_new_topics c) e.next.0 e.bytes

-- where a pass stands after the head, after the places and after the new topic's time
after_head_at_After_pass_places_new : (c : After-pass_places-new) → let given = c.args in
    Passing given.write given.out.now c.pass_head-places.new.out 0 c.pass_head-places.result
    (places_at_After_pass_places_new c ++ (new_at_After_pass_places_new c ++ topics_at_After_pass_places_new c)) (all_at_After_pass_places_new c)
after_head_at_After_pass_places_new c =
    let e = rw c.taken.ensures at c.pass_head-places.ensures in
    passing_turn (begun_at_After_pass_places_new c) (head_at_After_pass_places_new c)
    (places_at_After_pass_places_new c ++ (new_at_After_pass_places_new c ++ topics_at_After_pass_places_new c))
    (parts_at_After_pass_places_new c) (room_at_After_pass_places_new c) e.next.0 e.bytes

-- where a pass stands after the head, after the places and after the new topic's time
after_head : (c : After-pass_head-places) → let given = c.args in
    Passing given.write given.out.now c.pass_head-places.new.out 0 c.pass_head-places.result
    (places_at_After_pass_head_places c ++ (new_at_After_pass_head_places c ++ topics_at_After_pass_head_places c)) (all_at_After_pass_head_places c)
after_head c =
    let e = rw c.taken.ensures at c.pass_head-places.ensures in
    passing_turn (begun_at_After_pass_head_places c) (head_at_After_pass_head_places c)
    (places_at_After_pass_head_places c ++ (new_at_After_pass_head_places c ++ topics_at_After_pass_head_places c))
    (parts_at_After_pass_head_places c) (room_at_After_pass_head_places c) e.next.0 e.bytes

after_places_at_After_pass_new_topics : (c : After-pass_new-topics) → let given = c.args in
    Passing given.write given.out.now c.pass_places-new.new.out 0 c.pass_places-new.result (new_at_After_pass_new_topics c ++ topics_at_After_pass_new_topics c) (all_at_After_pass_new_topics c)
after_places_at_After_pass_new_topics c =
    passing_turn (after_head_at_After_pass_new_topics c) (places_at_After_pass_new_topics c)
    (new_at_After_pass_new_topics c ++ topics_at_After_pass_new_topics c) refl (room_at_After_pass_new_topics c) c.pass_places-new.ensures.next.0
    c.pass_places-new.ensures.bytes

after_places : (c : After-pass_places-new) → let given = c.args in
    Passing given.write given.out.now c.pass_places-new.new.out 0 c.pass_places-new.result (new_at_After_pass_places_new c ++ topics_at_After_pass_places_new c) (all_at_After_pass_places_new c)
after_places c =
    passing_turn (after_head_at_After_pass_places_new c) (places_at_After_pass_places_new c)
    (new_at_After_pass_places_new c ++ topics_at_After_pass_places_new c) refl (room_at_After_pass_places_new c) c.pass_places-new.ensures.next.0
    c.pass_places-new.ensures.bytes

after_new : (c : After-pass_new-topics) → let given = c.args in
    Passing given.write given.out.now c.pass_new-topics.new.out 0 c.pass_new-topics.result (topics_at_After_pass_new_topics c) (all_at_After_pass_new_topics c)
after_new c =
    let e = rw c.opening_new.ensures at c.pass_new-topics.ensures in
    passing_turn (after_places_at_After_pass_new_topics c) (new_at_After_pass_new_topics c) (topics_at_After_pass_new_topics c) refl (room_at_After_pass_new_topics c) e.next.0 e.bytes

pub pass_head-places-requires : goal.pass_head-places-requires
pass_head-places-requires c = record { small = omega arith; room = rw c.taken.ensures (passing_room (begun c) (head c) (places c ++ (new c ++ topics c)) (parts c) (room c)) }

pub pass_places-new-requires : goal.pass_places-new-requires
pass_places-new-requires c = record {
  small = omega (arith, c.pass_head-places.ensures.next.1);
  room = passing_room (after_head (goal.at.pass_places-new-requires c).After-pass_head-places)
      (places (goal.at.pass_places-new-requires c).After-taken)
      (new (goal.at.pass_places-new-requires c).After-taken ++ topics (goal.at.pass_places-new-requires c).After-taken) refl
      (room (goal.at.pass_places-new-requires c).After-taken);
}

pub pass_new-topics-requires : goal.pass_new-topics-requires
pass_new-topics-requires c = record {
  small = omega (arith, c.pass_places-new.ensures.next.1, c.pass_head-places.ensures.next.1);
  room = rw c.opening_new.ensures
      (passing_room (after_places (goal.at.pass_new-topics-requires c).After-pass_places-new) (new (goal.at.pass_new-topics-requires c).After-taken)
      (topics (goal.at.pass_new-topics-requires c).After-taken) refl (room (goal.at.pass_new-topics-requires c).After-taken));
}

pub pass_topics-requires : goal.pass_topics-requires
pass_topics-requires c = record {
  small = omega (arith, c.pass_new-topics.ensures.next.1, c.pass_places-new.ensures.next.1, c.pass_head-places.ensures.next.1);
  short = c.requires.short;
  room = passing_room (after_new (goal.at.pass_topics-requires c).After-pass_new-topics) (topics (goal.at.pass_topics-requires c).After-taken) []
      (last_part (topics (goal.at.pass_topics-requires c).After-taken)) (room (goal.at.pass_topics-requires c).After-taken);
}

pub returns : goal.returns
returns c = let g = passing_turn (after_new (goal.at.returns c).After-pass_new-topics) (topics (goal.at.returns c).After-taken) []
    (last_part (topics (goal.at.returns c).After-taken)) (room (goal.at.returns c).After-taken) c.pass_topics.ensures.next.0
    c.pass_topics.ensures.bytes in record {
      next = (
        omega (arith, passing_done g refl),
        omega (arith, c.pass_topics.ensures.next.1, c.pass_new-topics.ensures.next.1, c.pass_places-new.ensures.next.1, c.pass_head-places.ensures.next.1),
      );
      bytes = passing_bytes g refl;
    }
