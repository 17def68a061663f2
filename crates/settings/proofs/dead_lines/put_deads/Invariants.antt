-- `settings::dead_lines::put_deads`: the rules before each turn are told. Assumes nothing.
use Prim.Native.Nat.{◌*◌, ◌≤◌}
use lib.ListN.{length, take}
use Rattle.lines.specs.Wrote.{Wrote}
use Rattle.settings.specs.Dead.{deads_told}
use Rattle.settings.proofs.dead_lines.put_deads.Given as goal

abbrev pub invariant-loop-i : goal.invariant-loop-i
invariant-loop-i l =
    record {
      text : Wrote l.initial.out l.out l.at (deads_told l.rules 1 (take l.i l.covers)) l.p;
      short : length (deads_told l.rules 1 (take l.i l.covers)) ≤ l.i * 300;
    }
