pub mod TextBounds
