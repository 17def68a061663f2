-- `settings::rules::read_rules`: the rules that were taken are in the table, with what is read of those that are left is what is read of all, and the pattern's buffer keeps its length.
-- Assumes nothing.
use Prim.Native.Nat.{◌+◌, ◌-◌, ◌*◌}
use mathlib.Core.Path.{◌≡◌}
use lib.ListN.{length}
use Rattle.settings.proofs.rules.LoadLaws.{Loading}
use Rattle.settings.proofs.rules.read_rules.Given as goal

abbrev pub invariant-loop-taken : goal.invariant-loop-taken
invariant-loop-taken l =
    record {
      loading : Loading l.text l.count l.from l.lines (l.count - l.taken) (l.lines + 4 * l.taken) l.at l.rules l.taken;
      room : length l.pattern ≡ 128;
    }
