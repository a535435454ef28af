pub mod Against
pub mod Holders
pub mod Membership
pub mod Orders
pub mod Refusals
pub mod SeatLocks
pub mod Takings
