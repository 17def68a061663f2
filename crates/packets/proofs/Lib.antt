pub mod KindLaws
pub mod Missing
pub mod RefusalLaws
pub mod Steps
pub mod Taken
pub mod ToldLaws
