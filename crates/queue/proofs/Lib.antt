pub mod Enough
pub mod Joined
pub mod RefusalLaws
pub mod Singly
