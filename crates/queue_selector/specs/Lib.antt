pub mod Fault
pub mod Groups
pub mod Items
pub mod Places
