use Rattle.std.proofs.Common.{◌≡◌, ◌+◌, ◌-◌, ◌≤◌, min, max, length}
use Rattle.loops.specs.Inspections.{from_at, state_after, allowed_after}
use Rattle.loops.proofs.inspections.hub_loop.Given as goal

-- place, monitor and count are those after the first messages, and a topic is left whole at the place
abbrev pub invariant-loop-k : goal.invariant-loop-k
invariant-loop-k l =
    record {
      place : l.from ≡ from_at (length l.topics) l.width l.k;
      whole : l.from + l.width ≤ length l.topics;
      state : l.m ≡ state_after (min (max l.rules 1) 32 - 1) l.topics l.width l.size l.k;
      count : l.allowed ≡ allowed_after (min (max l.rules 1) 32 - 1) l.topics l.width l.size l.k;
    }
