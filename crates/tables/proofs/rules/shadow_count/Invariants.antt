use Rattle.std.proofs.Common.{◌≡◌, ◌+◌, ◌≤◌, take, drop}
use Rattle.tables.specs.Rules.{shadowed_after, shadow_count}
use Rattle.tables.proofs.rules.shadow_count.Given as goal

-- each rule adds at most one, and with what the rules from `at` on add it is the whole count
abbrev pub invariant-loop-at : goal.invariant-loop-at
invariant-loop-at l =
    record {
      most : l.shadowed ≤ l.at;
      counted : l.shadowed + shadowed_after (take l.at l.rules) (drop l.at (take l.count l.rules)) ≡ shadow_count l.rules l.count;
    }
