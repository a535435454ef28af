pub mod Counting
pub mod Left
pub mod Runs
pub mod Sorted
