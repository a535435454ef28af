pub mod Coded
pub mod Counts
pub mod GoodPlan
pub mod Kept
pub mod Opening
pub mod Seen
