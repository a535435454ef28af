pub mod Judged
pub mod Length
pub mod Moment
pub mod Name
pub mod Ranges
pub mod RowOrder
pub mod States
pub mod Texts
