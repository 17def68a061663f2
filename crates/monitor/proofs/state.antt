pub mod FormedLaws
pub mod KeptFormed
pub mod ToldLaws
