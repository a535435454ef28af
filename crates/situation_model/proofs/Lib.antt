mod Begun
mod Ended
mod Made
mod Numbered
mod NumberedCommands
mod Moments
pub mod Ranges
mod Replays
mod Stands
mod Stays
