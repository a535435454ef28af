pub mod RangeLemmas
pub mod Served
pub mod Stepped
pub mod Turns
pub mod Unlocked
