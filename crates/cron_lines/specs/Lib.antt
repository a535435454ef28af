pub mod Field
pub mod Phrase
pub mod RunTime
pub mod Spelling
pub mod Text
pub mod Values
pub mod Words
