pub mod Faults
pub mod KeptFor
pub mod Opened
pub mod Replayed
pub mod Runs
pub mod Spelled
pub mod Stepping
pub mod Verdicts
