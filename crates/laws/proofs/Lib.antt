pub mod Cases
pub mod Every
pub mod Folds
pub mod Fuel
pub mod Lists
pub mod Refusals
pub mod Tests
