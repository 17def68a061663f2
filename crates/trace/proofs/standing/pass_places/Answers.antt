use Prim.Native.Nat.{ℕ, ◌+◌, ◌-◌, ◌≤◌}
use mathlib.Core.List.{List, ◌++◌}
use mathlib.Core.Path.{◌≡◌, refl, sym, ◌∙◌}
use native.Mathlib.Omega.{arith}
use lib.ListN.{length, take, set, length-set}
use lib.Seq.{length-take-le}
use borrow.Author.Rules.{rules}
use Rattle.slices.specs.Bytes.{bytes}
use Rattle.tables.specs.Buckets.{empty_bucket}
use Rattle.tables.specs.Standing.{oldest_first}
use Rattle.tables.proofs.ScanLaws.{placed_some, placed_none}
use Rattle.monitor.specs.Runs.{Call}
use Rattle.trace.specs.Seen.{sent_from}
use Rattle.trace.specs.Standing.{name_text, places_text}
use Rattle.trace.proofs.standing.PassLaws.{passing_start, passing_room, passing_turn, passing_done, passing_bytes, places_turn, places_stop, places_none}
use Rattle.trace.proofs.standing.pass_places.Goals.{After-find_named-n, At-loop-turn}
use Rattle.trace.proofs.standing.pass_places.Goals as goal

abbrev calls_at_After_find_named_n : (c : After-find_named-n) → List Call
calls_at_After_find_named_n c = sent_from c.args.text.now c.args.first

abbrev calls : (c : At-loop-turn) → List Call
calls c = sent_from c.args.text.now c.args.first

-- the name's buffer is as long as before
name_long : (c : After-find_named-n) → length c.find_named-n.new.name ≡ 128
name_long c = c.find_named-n.ensures.long c.loop-turn.invariant.2

-- and the name is its beginning
name_inside : (c : After-find_named-n) → c.find_named-n.result ≤ length c.find_named-n.new.name
name_inside c = omega (arith, c.find_named-n.ensures.short, name_long c)

-- what goes out in this turn, and what is left then
abbrev part : (c : After-find_named-n) → List ℕ
part c = name_text (bytes "place=") (take c.find_named-n.result c.find_named-n.new.name)

abbrev further : (c : After-find_named-n) → List ℕ
further c =
    places_text (calls_at_After_find_named_n c) (oldest_first (32 - (c.loop-turn._turn + 1)) (set c.loop-turn.rest c.in-Some.oldest empty_bucket))

here : (c : After-find_named-n) → places_text (calls_at_After_find_named_n c) (oldest_first (32 - c.loop-turn._turn) c.loop-turn.rest) ≡ part c ++ further c
here c =
    let found = placed_some c.oldest_live.ensures c.in-Some.is in
    places_turn (calls_at_After_find_named_n c) c.loop-turn.rest (32 - (c.loop-turn._turn + 1)) (omega (arith, c.loop-turn-test.true)) found.0
    (omega (arith, c.loop-turn.invariant.3, found.1)) c.find_named-n.ensures.named

pub loop-turn-init : goal.loop-turn-init
loop-turn-init c =
    let n : length c.args.buckets.now ≡ 32 = search rules in (passing_start _ _ _ _, omega arith, c.buffer_128-name.ensures, n)

pub shape_of-out-in_default : goal.shape_of-out-in_default
shape_of-out-in_default c = c.loop-turn.invariant.0.long

pub returns-in_default : goal.returns-in_default
returns-in_default c = let none = places_stop (calls (goal.at.returns-in_default c).At-loop-turn) c.loop-turn.rest (32 - (c.loop-turn._turn + 1))
    (omega (arith, c.loop-turn-test.true)) refl (omega (arith, c.loop-turn.invariant.3, placed_none c.oldest_live.ensures c.in_default.is)) in
    record { next = (passing_done c.loop-turn.invariant.0 none, omega (arith, c.loop-turn.invariant.1)); bytes = passing_bytes c.loop-turn.invariant.0 none }

pub slice_bounds-name-end : goal.slice_bounds-name-end
slice_bounds-name-end c = name_inside (goal.at.slice_bounds-name-end c).After-find_named-n

pub slice_bounds-pass_place-end : goal.slice_bounds-pass_place-end
slice_bounds-pass_place-end c = sym (length-take-le _ _ (name_inside (goal.at.slice_bounds-pass_place-end c).After-find_named-n))

pub pass_place-p-requires : goal.pass_place-p-requires
pass_place-p-requires c = record {
  small = omega (arith, c.loop-turn.invariant.1, c.requires.small);
  short = omega (
    arith,
    length-take-le c.find_named-n.result c.find_named-n.new.name (name_inside (goal.at.pass_place-p-requires c).After-find_named-n),
    c.find_named-n.ensures.short,
  );
  room = passing_room c.loop-turn.invariant.0 (part (goal.at.pass_place-p-requires c).After-find_named-n)
      (further (goal.at.pass_place-p-requires c).After-find_named-n) (here (goal.at.pass_place-p-requires c).After-find_named-n) c.requires.room;
}

pub loop-turn-preserved : goal.loop-turn-preserved
loop-turn-preserved c = (
  passing_turn c.loop-turn.invariant.0 (part (goal.at.loop-turn-preserved c).After-find_named-n)
      (further (goal.at.loop-turn-preserved c).After-find_named-n) (here (goal.at.loop-turn-preserved c).After-find_named-n) c.requires.room
      c.pass_place-p.ensures.next.0 c.pass_place-p.ensures.bytes,
  omega (arith, c.loop-turn.invariant.1, c.pass_place-p.ensures.next.1, c.loop-turn-test.true),
  name_long (goal.at.loop-turn-preserved c).After-find_named-n,
  length-set c.loop-turn.rest c.in-Some.oldest empty_bucket ∙ c.loop-turn.invariant.3,
)

pub shape_of-out : goal.shape_of-out
shape_of-out c = c.loop-turn.invariant.0.long

pub returns : goal.returns
returns c = let none = places_none (calls (goal.at.returns c).At-loop-turn) c.loop-turn.rest {left = 32 - c.loop-turn._turn} (omega (arith, c.loop-turn-test.false)) in
    record { next = (passing_done c.loop-turn.invariant.0 none, omega (arith, c.loop-turn.invariant.1)); bytes = passing_bytes c.loop-turn.invariant.0 none }
