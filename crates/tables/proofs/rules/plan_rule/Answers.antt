use Rattle.std.proofs.Common.{arith, sym}
use Rattle.topics.proofs.patterns.PatternLaws.{accepted_length}
use Rattle.tables.proofs.rules.plan_rule.Goals as goal

pub overflow_cast-rule : goal.overflow_cast-rule
overflow_cast-rule c = let h = accepted_length c.args.pattern.now (sym c.in_ok-check_pattern.ensures) in omega (arith, h.1)
