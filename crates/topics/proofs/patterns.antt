pub mod PatternLaws
pub mod Placed
mod PlacedLaws
