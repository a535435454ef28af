pub mod Claims
pub mod Left
pub mod Polls
