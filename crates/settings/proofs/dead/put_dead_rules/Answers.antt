-- `settings::dead::put_dead_rules` meets its contract: the closing lines, and the report. Assumes nothing.
use mathlib.Core.Path.{◌≡◌, refl}
use borrow.Author.Rules.{rules}
use lib.ListN.{length}
use Rattle.settings.specs.Refused.{found_told}
use Rattle.settings.proofs.dead.ToldDead.{report_small, dead_accepted}
use Rattle.settings.proofs.dead.put_dead_rules.Goals as goal

pub put_report-requires : goal.put_report-requires
put_report-requires c =
    let found = c.args.found.now in
    let long : length found.rules ≡ 32 = search rules in
    report_small found.values.matching found.rules found.values.rules long c.requires (rw c.from.ensures at c.cover_report-covers.ensures)

pub returns : goal.returns
returns c =
    let h = dead_accepted (found_told c.args.found.now) refl (c.put_closing-after_closing.ensures.text, c.put_closing-after_closing.ensures.short)
    (rw c.from.ensures at c.cover_report-covers.ensures) (c.put_report.ensures.text, c.put_report.ensures.short) in
    record { text = h.0; short = h.1 }
