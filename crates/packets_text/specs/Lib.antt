pub mod MessageText
pub mod PacketText
pub mod ReadBack
pub mod Refusal
