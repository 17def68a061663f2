-- `trace::standing::pass_topic` meets its contract: the lines stand at the beginning of their own buffer, and go out from there. Assumes nothing.
use Rattle.std.specs.Prelude.{Ok}
use Rattle.monitor.specs.Standing.{told_outlook, told_left}
use mathlib.Core.List.{List}
use mathlib.Core.Path.{◌≡◌, sym}
use Prim.Native.Nat.{ℕ, ◌≤◌}
use native.Mathlib.Omega.{arith}
use lib.ListN.{length, take}
use lib.Seq.{length-take-le}
use Rattle.trace.specs.Standing.{topic_text}
use Rattle.trace.proofs.standing.PassLaws.{wrote_whole}
use Rattle.trace.proofs.standing.pass_topic.Goals.{After-put_topic-n}
use Rattle.trace.proofs.standing.pass_topic.Goals as goal

abbrev text : (c : After-put_topic-n) → List ℕ
text c = let given = c.args in topic_text given.topic.now (told_outlook (Ok given.outlook.now)) (told_left (Ok given.left.now)) given.last

short : (c : After-put_topic-n) → length (text c) ≤ 490
short c = c.put_topic-n.ensures.short c.requires.short

-- where they stand
made : (c : After-put_topic-n) → let buffer = c.put_topic-n.new.out in
    (c.put_topic-n.result ≡ length (text c)) × (take c.put_topic-n.result buffer ≡ text c) × (c.put_topic-n.result ≤ length buffer)
made c = wrote_whole c.put_topic-n.ensures.text (omega (arith, short c, c.group_buffer-lines.ensures))

pub slice_bounds-pass_lines-end : goal.slice_bounds-pass_lines-end
slice_bounds-pass_lines-end c = sym (length-take-le _ _ (made (goal.at.slice_bounds-pass_lines-end c).After-put_topic-n).2)

pub pass_lines-requires : goal.pass_lines-requires
pass_lines-requires c = record {
  small = c.requires.small;
  short = rw (made (goal.at.pass_lines-requires c).After-put_topic-n).1 (omega (arith, short (goal.at.pass_lines-requires c).After-put_topic-n));
  room = rw (made (goal.at.pass_lines-requires c).After-put_topic-n).1 c.requires.room;
}

pub returns : goal.returns
returns c = let next = rw (made (goal.at.returns c).After-put_topic-n).1 at c.pass_lines.ensures.next in
    record {
      next = (next, omega (arith, next, short (goal.at.returns c).After-put_topic-n));
      bytes = rw (made (goal.at.returns c).After-put_topic-n).1 at c.pass_lines.ensures.bytes;
    }
