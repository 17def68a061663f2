pub mod Args
pub mod Swap
