pub mod DeadBounds
mod DeadLaws
