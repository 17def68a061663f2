pub mod Lists
pub mod Refusals
