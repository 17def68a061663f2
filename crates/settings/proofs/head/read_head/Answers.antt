-- `settings::head::read_head` meets its contract: the chain of its lines is what the form reads, and the values that are cast are in range. Assumes nothing.
use native.Mathlib.Omega.{arith}
use Rattle.std.proofs.lemmas.Result.{err_from_is_err_and}
use Rattle.settings.proofs.head.HeadLaws.{Chained, head_stops, head_reads, head_form, head_threshold, head_rules, head_fine}
use Rattle.settings.proofs.refusal.KnownLaws.{at_known, checked_stops, checked_goes}
use Rattle.settings.proofs.head.read_head.Goals.{After-check_line}
use Rattle.settings.proofs.head.read_head.Goals as goal

-- the lines are a chain
chained : (c : After-check_line) →
    Chained c.args.text.now c.lines_more-more.result c.form_line-form.result c.word_after-default.result c.match_line-matched.result c.number_after-threshold.result
    c.number_after-window.result c.number_after-rules.result
chained c =
    record {
      form = c.form_line-form.ensures;
      more = c.lines_more-more.ensures.value;
      default = c.word_after-default.ensures;
      matched = c.match_line-matched.ensures;
      threshold = c.number_after-threshold.ensures;
      window = c.number_after-window.ensures;
      rules = c.number_after-rules.ensures;
    }

pub returns-in_err-check_line : goal.returns-in_err-check_line
returns-in_err-check_line c =
    let h = chained (goal.at.returns-in_err-check_line c).After-check_line in
    let p = err_from_is_err_and c.from_residual.result c.from_residual.ensures.1 in
    let q = checked_stops _ _ c.in_err-check_line.ensures in
    rw (p.1, p.2, q.1, at_known (head_fine h q.0), c.from-line.ensures) (head_stops h q.0)

pub overflow_cast-result : goal.overflow_cast-result
overflow_cast-result c = omega (arith, head_form (chained (goal.at.overflow_cast-result c).After-check_line) (checked_goes _ _ c.in_ok-check_line.ensures))

pub overflow_add-result : goal.overflow_add-result
overflow_add-result c = omega (arith, head_form (chained (goal.at.overflow_add-result c).After-check_line) (checked_goes _ _ c.in_ok-check_line.ensures))

pub overflow_cast-result-2 : goal.overflow_cast-result-2
overflow_cast-result-2 c = omega (arith, head_threshold (chained (goal.at.overflow_cast-result-2 c).After-check_line) (checked_goes _ _ c.in_ok-check_line.ensures))

pub overflow_cast-result-3 : goal.overflow_cast-result-3
overflow_cast-result-3 c = omega (arith, head_rules (chained (goal.at.overflow_cast-result-3 c).After-check_line) (checked_goes _ _ c.in_ok-check_line.ensures))

pub returns : goal.returns
returns c =
    rw (c.action_at.ensures, c.matching_at.ensures, c.from-line.ensures) (head_reads (chained (goal.at.returns c).After-check_line) (checked_goes _ _ c.in_ok-check_line.ensures))
