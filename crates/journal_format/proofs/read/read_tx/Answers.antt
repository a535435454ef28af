use Rattle.journal_format.proofs.ReadLaws.{payload_found, payload_only, payload_not_refused, payload_refused}
use Rattle.journal_format.proofs.read.read_tx.Goals as goal

pub overflow_sub-result : goal.overflow_sub-result
overflow_sub-result c = (payload_found c.args.bytes.now c.in-Ok.txs.items c.payload.new.self.rest.now c.in-Ok.ensures).shorter

pub overflow_sub-result-in-Err-Refused : goal.overflow_sub-result-in-Err-Refused
overflow_sub-result-in-Err-Refused c = (payload_refused c.args.bytes.now c.payload.new.self.rest.now (rw c.in-Err-Refused.field-0-is at c.in-Err-Refused.ensures)).shorter

pub returns-in-Ok-clause-read : goal.returns-in-Ok-clause-read
returns-in-Ok-clause-read c = (payload_found c.args.bytes.now c.in-Ok.txs.items c.payload.new.self.rest.now c.in-Ok.ensures).first

pub returns-in-Ok-clause-again : goal.returns-in-Ok-clause-again
returns-in-Ok-clause-again c = λ txs rest fits is. payload_only c.args.bytes.now txs rest c.payload.new.self.rest.now c.in-Ok.txs.items c.in-Ok.ensures fits is

pub returns-in-Err-Refused-clause-again : goal.returns-in-Err-Refused-clause-again
returns-in-Err-Refused-clause-again c = λ txs rest fits is. absurd (payload_not_refused c.args.bytes.now txs rest c.payload.new.self.rest.now (rw c.in-Err-Refused.field-0-is at c.in-Err-Refused.ensures) fits is)

pub returns-in-Err-Refused-clause-fault : goal.returns-in-Err-Refused-clause-fault
returns-in-Err-Refused-clause-fault c = (payload_refused c.args.bytes.now c.payload.new.self.rest.now (rw c.in-Err-Refused.field-0-is at c.in-Err-Refused.ensures)).refused
