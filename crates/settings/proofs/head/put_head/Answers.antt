-- `settings::head::put_head` meets its contract: six writes one behind the other. Assumes nothing.
use mathlib.Core.Path.{◌∙◌}
use Rattle.settings.proofs.head.HeadText.{head_wrote}
use Rattle.settings.proofs.head.put_head.Goals as goal

pub returns : goal.returns
returns c =
    let head = c.args.head.now in
    head_wrote head.form head.default_action head.matching head.threshold head.window head.rules c.form_place.ensures (c.from-action.ensures ∙ c.action_number.ensures)
    c.put_word_line-a.ensures c.put_word_line-b.ensures c.put_match-c.ensures (rw c.from.ensures at c.put_number_line-d.ensures) c.put_number_line-e.ensures
    (rw c.from-2.ensures at c.put_number_line.ensures)
