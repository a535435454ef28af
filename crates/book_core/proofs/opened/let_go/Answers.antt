use Rattle.book_core.proofs.BookLemmas.{ended_plans, holders_left}
use Rattle.book_core.proofs.CountLemmas.{planned_left}
use Rattle.book_core.proofs.opened.let_go.Goals as goal

pub returns-clause-plans : goal.returns-clause-plans
returns-clause-plans c = rw c.free.ensures.freed (ended_plans c.args.locks.now c.args.seat c.args.opened.now.entries c.remove.new.self.entries c.remove.ensures.updates.0)

pub returns-clause-holders : goal.returns-clause-holders
returns-clause-holders c = λ holders. rw c.free.ensures.freed (holders_left c.args.locks.now c.args.seat c.args.opened.now.entries c.remove.new.self.entries c.remove.ensures.updates.0 holders)

pub returns-clause-planned : goal.returns-clause-planned
returns-clause-planned c = planned_left _ c.args.opened.now.entries c.remove.new.self.entries c.remove.result c.remove.ensures.entries c.remove.ensures.value
