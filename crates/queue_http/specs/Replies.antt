-- The reply to a refused stream, for those who call this crate.
pub use Rattle.queue_replies.specs.Faults.{fault_reply}
