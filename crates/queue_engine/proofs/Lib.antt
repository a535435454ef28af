pub mod Beginning
pub mod Ending
pub mod Opening
pub mod Recording
pub mod Standing
