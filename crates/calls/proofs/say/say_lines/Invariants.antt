-- `calls::say::say_lines` ends. The measure: the bytes that are left. Assumes nothing.
use lib.ListN.{length}
use Rattle.calls.proofs.say.say_lines.Given as goal

abbrev pub decreases-loop-left : goal.decreases-loop-left
decreases-loop-left l = length l.left
