pub mod Begun
pub mod Traced
