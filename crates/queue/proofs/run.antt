pub mod RanLaws
mod RunLaws
