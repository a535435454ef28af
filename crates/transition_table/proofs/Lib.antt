pub mod Cases
pub mod InRange
