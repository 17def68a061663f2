pub mod LoadedLaws
