pub mod AddLaws
mod MoveLaws
