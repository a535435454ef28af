pub mod Following
pub mod Trail
