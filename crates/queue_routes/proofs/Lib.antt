pub mod BodyLemmas
pub mod EachLemmas
pub mod NumberLemmas
pub mod ShapeLemmas
pub mod WayLemmas
