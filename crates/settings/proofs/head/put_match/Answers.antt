-- `settings::head::put_match` meets its contract: nothing, or one line. Assumes nothing.
use mathlib.Core.Path.{◌∙◌}
use Rattle.lines.proofs.put.WroteLaws.{wrote_none}
use Rattle.settings.proofs.head.HeadText.{match_none, match_wrote}
use Rattle.settings.proofs.head.put_match.Goals as goal

pub returns-then-form-ne2 : goal.returns-then-form-ne2
returns-then-form-ne2 c = rw (match_none c.args.form c.args.matching c.if-form-ne2.true) (wrote_none _ _)

pub returns : goal.returns
returns c = match_wrote c.args.form c.args.matching c.if-form-ne2.false (c.from-place.ensures ∙ c.matching_number.ensures) c.put_word_line.ensures
