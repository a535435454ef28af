pub mod Examples
pub mod GoodSituation
pub mod Situations
pub mod Steps
