pub mod BookLemmas
pub mod CountLemmas
pub mod EntryMaps
pub mod GivenLemmas
pub mod HeldRows
pub mod KeptLemmas
pub mod Ordered
pub mod SeatRows
