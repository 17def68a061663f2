pub mod PlaceLaws
pub mod SameLaws
pub mod StdLaws
pub mod WalkLaws
