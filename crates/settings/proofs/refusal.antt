pub mod KnownLaws
pub mod OnceLaws
