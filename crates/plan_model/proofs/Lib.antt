mod AllowedAfter
mod AllowedCases
pub mod AllowedClaims
mod AllowedEnds
mod AllowedFirst
pub mod AllowedMoves
mod AllowedOthers
pub mod AllowedSeen
pub mod Apart
pub mod BooksFree
mod BooksGiven
mod BooksGood
pub mod BooksKept
mod Claims
mod Commands
pub mod CountLemmas
pub mod Departures
mod Discards
mod DraftLemmas
pub mod DueJobs
mod EachCommand
pub mod EachFree
mod Endings
pub mod Expiry
pub mod FreshLemmas
mod GoodDrafts
pub mod Holders
pub mod LateJobs
mod LegalCases
mod ManyCommands
pub mod ManyJobs
pub mod MapLemmas
pub mod Offers
mod Opening
pub mod OrderLemmas
pub mod PlacedJobs
mod Places
mod PlanLemmas
pub mod Polls
mod Processes
pub mod Raising
mod Ranged
pub mod RowLemmas
mod Spending
mod StepCounts
