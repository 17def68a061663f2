pub mod RuleGroup
pub mod RuleText
