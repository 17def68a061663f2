mod LookLaws
pub mod PieceLaws
