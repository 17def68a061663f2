-- `trace::standing::pass_head` meets its contract: the lines stand at the beginning of their own buffer, and go out from there. Assumes nothing.
use mathlib.Core.List.{List, ◌++◌}
use mathlib.Core.Path.{◌≡◌, sym}
use Prim.Native.Nat.{ℕ, ◌≤◌}
use native.Mathlib.Omega.{arith}
use lib.ListN.{length, take}
use lib.Seq.{length-take-le}
use borrow.Author.Rules.{rules}
use Rattle.slices.specs.Bytes.{bytes}
use Rattle.lines.specs.Line.{number_line}
use Rattle.lines.proofs.put.WroteLaws.{wrote_then}
use Rattle.trace.proofs.standing.PassLaws.{wrote_whole, head_short}
use Rattle.trace.proofs.standing.pass_head.Goals.{After-put_number_line-after_last, After-put_number_line-n}
use Rattle.trace.proofs.standing.pass_head.Goals as goal

abbrev text : (c : After-put_number_line-after_last) → List ℕ
text c = number_line (bytes "last=") c.args.last ++ number_line (bytes "taken=") c.args.count

abbrev text_at_After_put_number_line_n : (c : After-put_number_line-n) → List ℕ
text_at_After_put_number_line_n c = number_line (bytes "last=") c.args.last ++ number_line (bytes "taken=") c.args.count

short_at_After_put_number_line_n : (c : After-put_number_line-n) → length (text_at_After_put_number_line_n c) ≤ 53
short_at_After_put_number_line_n c = head_short c.args.last c.args.count (search rules) (search rules)

short : (c : After-put_number_line-after_last) → length (text c) ≤ 53
short c = head_short c.args.last c.args.count (search rules) (search rules)

-- where they stand
made : (c : After-put_number_line-n) → let buffer = c.put_number_line-n.new.out in
    let t = text_at_After_put_number_line_n c in
    (c.put_number_line-n.result ≡ length t) × (take c.put_number_line-n.result buffer ≡ t) × (c.put_number_line-n.result ≤ length buffer)
made c =
    wrote_whole (wrote_then c.put_number_line-after_last.ensures c.put_number_line-n.ensures) (omega (arith, short_at_After_put_number_line_n c, c.group_buffer-lines.ensures))

pub slice_bounds-pass_lines-end : goal.slice_bounds-pass_lines-end
slice_bounds-pass_lines-end c = sym (length-take-le _ _ (made (goal.at.slice_bounds-pass_lines-end c).After-put_number_line-n).2)

pub pass_lines-requires : goal.pass_lines-requires
pass_lines-requires c = record {
  small = c.requires.small;
  short = rw (made (goal.at.pass_lines-requires c).After-put_number_line-n).1
      (omega (arith, short (goal.at.pass_lines-requires c).After-put_number_line-after_last));
  room = rw (made (goal.at.pass_lines-requires c).After-put_number_line-n).1 c.requires.room;
}

pub returns : goal.returns
returns c = let next = rw (made (goal.at.returns c).After-put_number_line-n).1 at c.pass_lines.ensures.next in
    record {
      next = (next, omega (arith, next, short (goal.at.returns c).After-put_number_line-after_last));
      bytes = rw (made (goal.at.returns c).After-put_number_line-n).1 at c.pass_lines.ensures.bytes;
    }
