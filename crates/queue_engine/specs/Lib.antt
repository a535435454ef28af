pub mod Built
pub mod Calls
pub mod Coded
pub mod Recorded
pub mod Running
pub mod Standing
