pub mod Claims
pub mod Judging
pub mod NameLemmas
pub mod NextLemmas
pub mod RowLemmas
pub mod RunLemmas
pub mod Writing
