pub mod WordLemmas
pub mod JobLemmas
pub mod LineLemmas
pub mod PrintedLemmas
pub mod InputLaws
pub mod InputSteps
