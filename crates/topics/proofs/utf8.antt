mod AsciiLaws
mod DecodeLaws
pub mod Decoded
pub mod Encoded
