use Rattle.std.proofs.Common.{inl, inr}
use Rattle.queue_http.proofs.Turns.{committed_with, failed_with}
use Rattle.queue_http.proofs.service.commit.Goals as goal

pub returns-in-Ok-reply_of-clause-ends : goal.returns-in-Ok-reply_of-clause-ends
returns-in-Ok-reply_of-clause-ends g c = committed_with _ _ _ _ _ _ c.in-Ok.answer c.in-Ok.ensures.ends (inl c.in-Ok-reply_of.ensures.reply)

pub returns-in-Ok-clause-ends : goal.returns-in-Ok-clause-ends
returns-in-Ok-clause-ends g c = committed_with _ _ _ _ _ _ c.in-Ok.answer c.in-Ok.ensures.ends (inr c.reply_memory.ensures)

pub returns-clause-ends : goal.returns-clause-ends
returns-clause-ends g c = failed_with _ _ _ _ _ _ c.in-Err.field-0 c.in-Err.ensures.ends c.reply_disk.ensures c.in-Err.ensures.cause.failed
