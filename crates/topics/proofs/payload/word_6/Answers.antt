use Rattle.std.proofs.Common.{rules, arith}
use Rattle.topics.specs.Payload.{word6}
use Rattle.topics.proofs.payload.BitLaws.{rotated}
use Rattle.topics.proofs.payload.word_6.Goals as goal

pub returns : goal.returns
unfolding word6
returns c =
    rw (
      rotated 5 (omega arith) (omega arith) (search rules) c.rotate_left.ensures,
      rotated 29 (omega arith) (omega arith) (search rules) c.rotate_left-2.ensures,
      rotated 11 (omega arith) (omega arith) (search rules) c.rotate_left-3.ensures,
      rotated 25 (omega arith) (omega arith) (search rules) c.rotate_left-4.ensures,
      rotated 17 (omega arith) (omega arith) (search rules) c.rotate_left-5.ensures,
      c.word_2.ensures,
      c.word_4.ensures,
    )
