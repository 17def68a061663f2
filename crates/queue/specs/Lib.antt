pub mod Enough
pub mod Joined
pub mod Queue
pub mod Refusal
pub mod Several
pub mod Singly
pub mod Turn
