-- `rules_text::put::rule_len` meets its contract: the lengths of the four lines, summed up. Assumes nothing.
use mathlib.Core.Path.{◌≡◌, ◌∙◌}
use Rattle.std.proofs.Common.{◌+◌, ◌≤◌, length, arith, rules}
use Rattle.tables.proofs.rules.RuleLaws.{lent}
use Rattle.rules_text.specs.RuleText.{rule_text}
use Rattle.rules_text.proofs.put.PutLaws.{RuleTyped, rule_sum}
use Rattle.rules_text.proofs.put.rule_len.Goals.{After-number_line_len-d}
use Rattle.rules_text.proofs.put.rule_len.Goals as goal

sum : (c : After-number_line_len-d) → let all = c.hex_line_len-a.result + c.word_line_len-b.result + c.word_line_len-c.result + c.number_line_len-d.result in
    (all ≡ length (rule_text c.args.rule.now)) × (all ≤ 171)
sum c =
    let rule = c.args.rule.now in
    let typed : RuleTyped rule = record { long = search rules; rate = search rules } in
    rule_sum rule typed (lent rule typed.long c.used-n.ensures) (c.from-action.ensures ∙ c.action_number.ensures) (c.from-policy.ensures ∙ c.policy_number.ensures)
    c.hex_line_len-a.ensures c.word_line_len-b.ensures c.word_line_len-c.ensures (rw c.from.ensures at c.number_line_len-d.ensures)

pub overflow_add-result : goal.overflow_add-result
overflow_add-result c = omega (arith, sum c)

pub overflow_add-result-2 : goal.overflow_add-result-2
overflow_add-result-2 c = omega (arith, sum c)

pub overflow_add-result-3 : goal.overflow_add-result-3
overflow_add-result-3 c = omega (arith, sum c)

pub returns : goal.returns
returns c = let h = sum c in record { value = h.0; short = h.1 }
