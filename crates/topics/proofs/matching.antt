pub mod Difference
mod MatchLaws
pub mod Meaning
mod StandardLaws
