pub mod Document
pub mod Fault
pub mod Key
pub mod KeyText
pub mod Kind
