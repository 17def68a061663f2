pub mod AsRun
pub mod Bound
pub mod PlanBounds
