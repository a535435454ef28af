pub mod Known
pub mod Passes
pub mod Rule
pub mod Shown
pub mod Steps
pub mod Views
