pub mod Input
pub mod Jobs
pub mod Lines
pub mod Printed
pub mod Ranges
pub mod Words
