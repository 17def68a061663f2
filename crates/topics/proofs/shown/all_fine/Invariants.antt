-- `shown::all_fine` meets its contract. The invariant: what is left is fine after `before` exactly if the whole is. Assumes nothing.
use Rattle.std.proofs.Common.{◌≡◌, drop}
use Rattle.topics.specs.Shown.{fine_after}
use Rattle.topics.proofs.shown.all_fine.Given as goal

abbrev pub invariant-loop-b : goal.invariant-loop-b
invariant-loop-b l = fine_after l.before (drop l.b-index l.s) ≡ fine_after 0 l.s
