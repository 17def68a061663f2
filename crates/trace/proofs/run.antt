pub mod BufferLaws
pub mod LoadLaws
pub mod RunLaws
