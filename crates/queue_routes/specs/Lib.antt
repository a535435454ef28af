pub mod Ask
pub mod Bodies
pub mod Routes
pub mod Ways
