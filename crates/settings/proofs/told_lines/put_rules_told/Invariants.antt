-- `settings::told_lines::put_rules_told`: the rules before each turn are told. Assumes nothing.
use Prim.Native.Nat.{◌*◌, ◌≤◌}
use mathlib.Core.List.{map}
use lib.ListN.{length, take}
use Rattle.lines.specs.Wrote.{Wrote}
use Rattle.rules_text.specs.RuleText.{rule_in}
use Rattle.settings.specs.Told.{rules_told}
use Rattle.settings.proofs.told_lines.put_rules_told.Given as goal

abbrev pub invariant-loop-i : goal.invariant-loop-i
invariant-loop-i l =
    record {
      text : Wrote l.initial.out l.out l.at (rules_told 1 (map rule_in (take l.i l.rules))) l.p;
      short : length (rules_told 1 (map rule_in (take l.i l.rules))) ≤ l.i * 320;
    }
