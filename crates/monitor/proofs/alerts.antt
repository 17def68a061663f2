pub mod AlertLaws
pub mod KindLaws
