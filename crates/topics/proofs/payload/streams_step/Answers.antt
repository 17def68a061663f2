use Rattle.std.proofs.Common.{rules, arith}
use Rattle.topics.specs.Payload.{streams_step}
use Rattle.topics.proofs.payload.BitLaws.{rotated}
use Rattle.topics.proofs.payload.streams_step.Goals as goal

pub returns : goal.returns
unfolding streams_step
returns c =
    rw (
      c.from-b.ensures,
      c.fnv_step.ensures,
      c.fnv_step-2.ensures,
      rotated 5 (omega arith) (omega arith) (search rules) c.rotate_left.ensures,
      rotated 13 (omega arith) (omega arith) (search rules) c.rotate_left-2.ensures,
    )
