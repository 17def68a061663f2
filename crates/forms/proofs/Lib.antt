pub mod FieldRound
pub mod FormRound
pub mod LineBounds
pub mod LineRound
pub mod PlainLaws
pub mod RealLaws
pub mod ShortLaws
pub mod StandsLaws
