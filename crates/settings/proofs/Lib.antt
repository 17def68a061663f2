pub mod Fits
mod FormLaws
pub mod HomeAgain
mod Made
pub mod OneToOne
pub mod SettingsRound
