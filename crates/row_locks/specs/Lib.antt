pub mod Asked
pub mod Fault
pub mod Footprints
pub mod Locks
pub mod Seats
