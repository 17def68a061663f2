use Rattle.std.proofs.Common.{rules, arith}
use Rattle.topics.specs.Payload.{word4}
use Rattle.topics.proofs.payload.BitLaws.{rotated}
use Rattle.topics.proofs.payload.word_4.Goals as goal

pub returns : goal.returns
unfolding word4
returns c = rw (c.word_2.ensures, rotated 7 (omega arith) (omega arith) (search rules) c.rotate_left.ensures, rotated 29 (omega arith) (omega arith) (search rules) c.rotate_left-2.ensures)
