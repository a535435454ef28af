pub mod Answers
pub mod Faults
pub mod Json
pub mod Refusals
