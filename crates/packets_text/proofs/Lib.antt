pub mod ReadBack
pub mod RefusalLaws
