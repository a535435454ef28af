pub mod Arguments
pub mod Envelope
pub mod Kind
pub mod Member
pub mod Ranges
pub mod Written
