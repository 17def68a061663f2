-- `trace::standing::pass_place` meets its contract: the lines stand at the beginning of their own buffer, and go out from there. Assumes nothing.
use mathlib.Core.List.{List}
use mathlib.Core.Path.{◌≡◌, sym}
use Prim.Native.Nat.{ℕ, ◌≤◌}
use native.Mathlib.Omega.{arith}
use lib.ListN.{length, take}
use lib.Seq.{length-take-le}
use Rattle.slices.specs.Bytes.{bytes}
use Rattle.trace.specs.Standing.{name_text}
use Rattle.trace.proofs.standing.PassLaws.{wrote_whole}
use Rattle.trace.proofs.standing_lines.TextBounds.{name_short}
use Rattle.trace.proofs.standing.pass_place.Goals.{After-put_name-n}
use Rattle.trace.proofs.standing.pass_place.Goals as goal

-- the lines, and where they stand
abbrev topic : (c : After-put_name-n) → List ℕ
topic c = c.args.name.now

short : (c : After-put_name-n) → length (name_text (bytes "place=") (topic c)) ≤ 397
short c = name_short (bytes "place=") (topic c) (omega arith) c.requires.short

made : (c : After-put_name-n) → let buffer = c.put_name-n.new.out in
    (c.put_name-n.result ≡ length (name_text (bytes "place=") (topic c))) × (take c.put_name-n.result buffer ≡ name_text (bytes "place=") (topic c))
    × (c.put_name-n.result ≤ length buffer)
made c = wrote_whole c.put_name-n.ensures (omega (arith, short c, c.group_buffer-lines.ensures))

pub slice_bounds-pass_lines-end : goal.slice_bounds-pass_lines-end
slice_bounds-pass_lines-end c = sym (length-take-le _ _ (made (goal.at.slice_bounds-pass_lines-end c).After-put_name-n).2)

pub pass_lines-requires : goal.pass_lines-requires
pass_lines-requires c = record {
  small = c.requires.small;
  short = rw (made (goal.at.pass_lines-requires c).After-put_name-n).1 (omega (arith, short (goal.at.pass_lines-requires c).After-put_name-n));
  room = rw (made (goal.at.pass_lines-requires c).After-put_name-n).1 c.requires.room;
}

pub returns : goal.returns
returns c = let next = rw (made (goal.at.returns c).After-put_name-n).1 at c.pass_lines.ensures.next in
    record {
      next = (next, omega (arith, next, short (goal.at.returns c).After-put_name-n));
      bytes = rw (made (goal.at.returns c).After-put_name-n).1 at c.pass_lines.ensures.bytes;
    }
