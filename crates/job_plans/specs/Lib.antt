pub mod Built
pub mod New
