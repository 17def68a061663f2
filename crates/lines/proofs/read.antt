pub mod FieldLaws
pub mod KeptLaws
