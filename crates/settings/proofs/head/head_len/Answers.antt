-- `settings::head::head_len` meets its contract: the lengths of the lines, summed up. Assumes nothing.
use Prim.Native.Nat.{◌+◌, ◌≤◌}
use mathlib.Core.Path.{◌≡◌, ◌∙◌}
use native.Mathlib.Omega.{arith}
use borrow.Author.Rules.{rules}
use lib.ListN.{length}
use Rattle.settings.specs.Refused.{head_values}
use Rattle.settings.specs.SettingsText.{head_lines}
use Rattle.settings.proofs.head.HeadText.{head_sum}
use Rattle.settings.proofs.head.head_len.Goals.{After-number_line_len-f}
use Rattle.settings.proofs.head.head_len.Goals as goal

sum : (c : After-number_line_len-f) →
    let all =
    c.word_line_len-a.result + c.word_line_len-b.result + c.match_len-c.result + c.number_line_len-d.result + c.number_line_len-e.result
    + c.number_line_len-f.result in
    (all ≡ length (head_lines.text (head_values c.args.head.now))) × (all ≤ 200)
sum c =
    let head = c.args.head.now in
    head_sum head.form head.default_action head.matching head.threshold head.window head.rules
    (record { threshold8 = search rules; window64 = search rules; rules16 = search rules }) c.form_place.ensures (c.from-action.ensures ∙ c.action_number.ensures)
    c.word_line_len-a.ensures c.word_line_len-b.ensures c.match_len-c.ensures.value (rw c.from.ensures at c.number_line_len-d.ensures) c.number_line_len-e.ensures
    (rw c.from-2.ensures at c.number_line_len-f.ensures)

pub overflow_add-result : goal.overflow_add-result
overflow_add-result c = omega (arith, sum c)

pub overflow_add-result-2 : goal.overflow_add-result-2
overflow_add-result-2 c = omega (arith, sum c)

pub overflow_add-result-3 : goal.overflow_add-result-3
overflow_add-result-3 c = omega (arith, sum c)

pub overflow_add-result-4 : goal.overflow_add-result-4
overflow_add-result-4 c = omega (arith, sum c)

pub overflow_add-result-5 : goal.overflow_add-result-5
overflow_add-result-5 c = omega (arith, sum c)

pub returns : goal.returns
returns c = let h = sum c in record { value = h.0; short = h.1 }
