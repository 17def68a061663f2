pub mod ExactLaws
pub mod StandingLaws
