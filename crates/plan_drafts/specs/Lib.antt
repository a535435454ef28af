pub mod Drafting
pub mod Ends
pub mod Left
pub mod Made
pub mod Pushes
