mod LoadLaws
mod RulesText
pub mod TableLaws
