-- `matching::standard_matches` meets its contract: inside its domain the byte matcher is the standard's rule. Assumes nothing.
use Rattle.std.proofs.Common.{sym, ◌∙◌, rules, tests}
use Rattle.laws.proofs.Refusals.{unrefused}
use Rattle.topics.specs.Patterns.{pattern_number}
use Rattle.topics.proofs.matching.StandardLaws.{inside}
use Rattle.topics.proofs.matching.standard_matches.Goals as goal

pub returns-then-matches_with : goal.returns-then-matches_with
returns-then-matches_with c =
    inside _ _ (sym c.check_pattern.ensures ∙ unrefused pattern_number _ (sym c.is_err.ensures.value ∙ c.if-is_err.false))
    (search (rules, tests)) (sym c.matches_with.ensures ∙ c.if-matches_with.true)

pub returns-else-matches_with : goal.returns-else-matches_with
returns-else-matches_with c =
    inside _ _ (sym c.check_pattern.ensures ∙ unrefused pattern_number _ (sym c.is_err.ensures.value ∙ c.if-is_err.false))
    (search (rules, tests)) (sym c.matches_with.ensures ∙ c.if-matches_with.false)
