-- `settings::dead_lines::put_two_rules` meets its contract: five writes, one after the other. Assumes nothing.
use Prim.Native.Nat.{◌^◌, ◌<◌}
use Rattle.settings.proofs.dead_lines.DeadLaws.{two_wrote}
use borrow.Author.Rules.{rules}
use Rattle.settings.proofs.dead_lines.put_two_rules.Goals.{Start}
use Rattle.settings.proofs.dead_lines.put_two_rules.Goals as goal

-- what the types say
fits : (c : Start) → (c.args.one < 2 ^ 64) × (c.args.other < 2 ^ 64)
fits c = (search rules, search rules)

pub returns : goal.returns
returns c = let h = two_wrote _ _ _ _ _ (fits (goal.at.returns c).Start).0 (fits (goal.at.returns c).Start).1 c.put_bytes-after_start.ensures
    c.put_decimal-after_one.ensures c.put_bytes-after_middle.ensures c.put_decimal-after_other.ensures
    c.put_bytes.ensures in record { text = h.0; short = h.1 }
