-- `settings::dead_lines::put_report` meets its contract: the count, and then the rules. Assumes nothing.
use mathlib.Core.Path.{◌≡◌}
use native.Mathlib.Omega.{arith}
use borrow.Author.Rules.{rules}
use lib.ListN.{length}
use Rattle.settings.proofs.dead_lines.DeadBounds.{count_most}
use Rattle.settings.proofs.dead_lines.DeadLaws.{report_wrote}
use Rattle.settings.proofs.dead_lines.put_report.Goals as goal

pub overflow_sub-silent : goal.overflow_sub-silent
overflow_sub-silent c =
    let covers = c.args.covers.now in
    let long : length covers ≡ 32 = search rules in
    omega (arith, c.count_byte-silent.ensures, long, count_most 0 covers)

pub returns : goal.returns
returns c =
    let long : length c.args.covers.now ≡ 32 = search rules in
    let h = report_wrote _ _ long c.count_byte-silent.ensures c.put_number_line-after_count.ensures (c.put_deads.ensures.text, c.put_deads.ensures.short) in
    record { text = h.0; short = h.1 }
