pub mod GivenLaws
pub mod TellLaws
pub mod TurnLaws
