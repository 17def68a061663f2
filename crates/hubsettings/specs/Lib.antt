pub mod Answered
pub mod Asked
