-- `settings::head::match_len` meets its contract: nothing, or one line. Assumes nothing.
use mathlib.Core.Path.{◌∙◌}
use native.Mathlib.Omega.{arith}
use Rattle.settings.proofs.head.HeadText.{match_none, match_sum}
use Rattle.settings.proofs.head.match_len.Goals as goal

pub returns-then-form-ne2 : goal.returns-then-form-ne2
returns-then-form-ne2 c = let args = c.args in record { value = rw (match_none args.form args.matching c.if-form-ne2.true); short = omega arith }

pub returns : goal.returns
returns c =
    let h = match_sum c.args.form c.args.matching c.if-form-ne2.false (c.from-place.ensures ∙ c.matching_number.ensures) c.word_line_len.ensures in
    record { value = h.0; short = h.1 }
