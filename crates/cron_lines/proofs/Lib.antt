pub mod ValuesLemmas
pub mod FieldLemmas
pub mod WordLemmas
pub mod RunTimeLemmas
pub mod SpellingLemmas
pub mod PhraseLemmas
pub mod LineLemmas
