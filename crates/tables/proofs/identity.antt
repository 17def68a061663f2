pub mod AgreeLaws
pub mod IdentityLaws
pub mod PrefixLaws
