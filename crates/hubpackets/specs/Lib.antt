pub mod Asked
pub mod Inspected
