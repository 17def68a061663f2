pub mod Chain
pub mod Form
pub mod Stands
