pub mod NumberLaws
pub mod PlanLaws
pub mod RuleLaws
mod ShadowLaws
