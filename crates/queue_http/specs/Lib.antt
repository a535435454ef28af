pub mod Asked
pub mod Ended
pub mod Ranges
pub mod Replies
pub mod Service
pub mod Steps
