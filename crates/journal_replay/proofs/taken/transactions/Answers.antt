use Rattle.std.proofs.Common.{refl}
use Rattle.journal_replay.proofs.Spelled.{longer, refused}
use Rattle.journal_replay.proofs.taken.transactions.Goals as goal

pub returns-in-Ok-2-clause-fault : goal.returns-in-Ok-2-clause-fault
returns-in-Ok-2-clause-fault c = (refl, longer c.one_text.ensures c.args.bytes.now c.in-Ok.txs.items c.in-Ok.len c.in-Ok.ensures.read c.if-len-bytes.false)

pub returns-in-Err-BadRecord-clause-fault : goal.returns-in-Err-BadRecord-clause-fault
returns-in-Err-BadRecord-clause-fault c = (refl, refused c.args.bytes.now c.in-Err-BadRecord.field-0-0 (rw c.in-Err-BadRecord.field-0-is at c.in-Err-BadRecord.ensures.fault))
