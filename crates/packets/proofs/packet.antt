pub mod AcceptedLaws
pub mod PacketLaws
