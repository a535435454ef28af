pub mod DocumentLemmas
pub mod ElementLemmas
pub mod KeyLemmas
pub mod NameLemmas
pub mod ViewLemmas
