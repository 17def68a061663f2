mod PairLaws
pub mod ToldDead
