-- `trace::standing::pass_new` meets its contract: the lines stand at the beginning of their own buffer, and go out from there. Assumes nothing.
use mathlib.Core.Path.{◌≡◌, sym}
use Prim.Native.Nat.{◌≤◌}
use native.Mathlib.Omega.{arith}
use lib.ListN.{length, take}
use lib.Seq.{length-take-le}
use Rattle.slices.specs.Bytes.{bytes}
use Rattle.trace.specs.Standing.{opening_text}
use Rattle.trace.proofs.standing.PassLaws.{wrote_whole}
use Rattle.trace.proofs.standing.pass_new.Goals.{After-put_opening-n}
use Rattle.trace.proofs.standing.pass_new.Goals as goal

short : (c : After-put_opening-n) → length (opening_text (bytes "new=") c.args.last c.args.opening) ≤ 53
short c = c.put_opening-n.ensures.short (omega arith)

-- the lines, where they stand
made : (c : After-put_opening-n) → let buffer = c.put_opening-n.new.out in
    let t = opening_text (bytes "new=") c.args.last c.args.opening in
    (c.put_opening-n.result ≡ length t) × (take c.put_opening-n.result buffer ≡ t) × (c.put_opening-n.result ≤ length buffer)
made c = wrote_whole c.put_opening-n.ensures.text (omega (arith, short c, c.group_buffer-lines.ensures))

pub slice_bounds-pass_lines-end : goal.slice_bounds-pass_lines-end
slice_bounds-pass_lines-end c = sym (length-take-le _ _ (made (goal.at.slice_bounds-pass_lines-end c).After-put_opening-n).2)

pub pass_lines-requires : goal.pass_lines-requires
pass_lines-requires c = record {
  small = c.requires.small;
  short = rw (made (goal.at.pass_lines-requires c).After-put_opening-n).1
      (omega (arith, short (goal.at.pass_lines-requires c).After-put_opening-n));
  room = rw (made (goal.at.pass_lines-requires c).After-put_opening-n).1 c.requires.room;
}

pub returns : goal.returns
returns c = let next = rw (made (goal.at.returns c).After-put_opening-n).1 at c.pass_lines.ensures.next in
    record {
      next = (next, omega (arith, next, short (goal.at.returns c).After-put_opening-n));
      bytes = rw (made (goal.at.returns c).After-put_opening-n).1 at c.pass_lines.ensures.bytes;
    }
