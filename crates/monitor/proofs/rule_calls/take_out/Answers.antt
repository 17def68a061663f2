-- `rule_calls::take_out` meets its contract: the rules behind the place are copied a place up, and the last place is freed. Assumes nothing.
use Rattle.std.proofs.Common.{ℕ, ◌≡◌, ap, ◌∙◌, ◌+◌, ◌-◌, arith, rules, length, set, drop}
use lib.Seq.{paste}
use Rattle.tables.specs.Rules.{empty_rule}
use Rattle.monitor.specs.Calls.{without}
use Rattle.monitor.proofs.rule_calls.MoveLaws.{moved_done}
use Rattle.monitor.proofs.rule_calls.take_out.Goals as goal

pub returns : goal.returns
unfolding without
returns c =
    let a = c.args in
    let n : length a.rules.now ≡ 32 = search rules in
    let i = a.count - (a.at + 1) in
    let last : a.count - 1 ≡ a.at + i = omega (arith, c.requires) in
    let moved = paste a.rules.now a.at (drop (a.at + 1) a.rules.now) i in
    rw c.copy_within.ensures.after
    (ap (λ (k : ℕ). set moved k empty_rule) last
    ∙ moved_done a.rules.now a.at i {n = a.count} empty_rule (omega arith) (omega (arith, c.requires)) (omega (arith, c.requires)))
