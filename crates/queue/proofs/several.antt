pub mod LightLaws
pub mod LoopLaws
