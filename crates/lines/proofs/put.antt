pub mod DecimalLaws
pub mod HexLaws
pub mod WroteLaws
