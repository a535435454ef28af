use Rattle.std.proofs.Common.{subst}
use Rattle.job_states.specs.declared.row.Row.TheVariants.{Task}
use Rattle.row_locks.specs.Seats.{IsLeastHolder}
use Rattle.row_locks.proofs.Holders.{least_none_iff}
use Rattle.row_locks.proofs.locks.Locks.is_task_free.Goals as goal

pub returns : goal.returns
returns c =
    let row = (Task c.args.task.now) in
    least_none_iff c.args.self.now c.args.seat row c.args.mode c.holder.result c.is_none.result c.is_none.ensures
    (subst (λ locks. IsLeastHolder locks c.args.seat row c.args.mode c.holder.result) c.self.view_is c.holder.ensures)
