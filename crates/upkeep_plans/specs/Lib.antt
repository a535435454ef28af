pub mod Built
pub mod Done
pub mod Left
pub mod SoFar
pub mod Standing
pub mod Taking
