pub mod DecimalRound
pub mod HexRound
pub mod Round
mod WordRound
