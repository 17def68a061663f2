pub mod LeftLaws
pub mod MessageLaws
pub mod MovedLaws
