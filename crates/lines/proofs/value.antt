pub mod DecimalLaws
pub mod HexLaws
