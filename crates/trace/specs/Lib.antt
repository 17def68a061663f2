pub mod AsRun
pub mod Groups
pub mod Record
pub mod Seen
pub mod Standing
pub mod Trace
