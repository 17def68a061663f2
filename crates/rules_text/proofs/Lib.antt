pub mod RuleRound
pub mod RuleTook
