use Rattle.streams.proofs.turn.TurnLaws.{came_missed, came_moved}
use Rattle.streams.proofs.turn.came_to.Goals as goal

pub returns-then-got-lt0 : goal.returns-then-got-lt0
returns-then-got-lt0 c = came_missed _ _ _ _ c.ranges.got c.ranges.error c.if-got-lt0.true c.missed.ensures

pub returns : goal.returns
returns c = came_moved _ _ _ _ c.ranges.got c.if-got-lt0.false c.count.ensures.value
