pub mod ToldBounds
mod ToldLaws
