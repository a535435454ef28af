pub mod Grammar
pub mod Header
pub mod Payload
pub mod Reading
pub mod Reads
pub mod Records
pub mod Spelling
pub mod Utf8
