pub mod Ahead
pub mod Head
pub mod Limits
pub mod Reading
pub mod Reply
pub mod Stream
