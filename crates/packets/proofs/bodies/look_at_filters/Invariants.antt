-- `packets::bodies::look_at_filters` meets its contract. Assumes nothing.
use Prim.Native.Nat.{◌+◌, ◌-◌, ◌≤◌}
use mathlib.Core.Path.{◌≡◌}
use lib.ListN.{length}
use Rattle.packets.specs.Bodies.{looked_at}
use Rattle.packets.specs.Filters.{filters_of}
use Rattle.packets.proofs.bodies.LookLaws.{looked_over, filters_left}
use Rattle.packets.proofs.bodies.look_at_filters.Given as goal

abbrev pub invariant-loop-at : goal.invariant-loop-at
invariant-loop-at l = (looked_over l.b l.seen (filters_left l.subscribe l.b l.at) ≡ looked_at l.b (filters_of l.subscribe l.b)) × (l.seen.count + 2 ≤ l.at)

abbrev pub decreases-loop-at : goal.decreases-loop-at
decreases-loop-at l = length l.b - l.at
