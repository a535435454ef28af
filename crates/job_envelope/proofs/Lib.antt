pub mod ArgLemmas
pub mod CountLemmas
pub mod EnvelopeLemmas
pub mod RoundTrip
pub mod WrittenLemmas
