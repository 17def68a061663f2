pub mod Counted
mod CutLaws
mod Enough
pub mod Exact
mod NameTried
mod SampleLaws
mod TriedLaws
mod WayLaws
pub mod WitnessLaws
