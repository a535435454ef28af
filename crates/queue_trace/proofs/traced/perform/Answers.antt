use Rattle.queue_http.specs.Service.{disk_state}
use Rattle.queue_trace.proofs.LineLemmas.{unbuilt}
use Rattle.queue_trace.proofs.traced.perform.Goals as goal
use Rattle.queue_trace.proofs.traced.perform.Goals.{in-Begin, in-Do, in-Commit, in-Rollback, in-Reopen}

pub returns-clause-performs : goal.returns-clause-performs
returns-clause-performs g c =
    let disk = disk_state (g.D.Disk.history c.args.disk.now) (g.D.Disk.faults c.args.disk.now) in
    elim c.match-line.branch [
      | in-Begin w ↦ rw (w.in-Begin.is, w.engine-is, w.disk-is, w.printed-is) (w.begin-printed.ensures disk)
      | in-Do w ↦ rw (w.in-Do.is, w.engine-is, w.disk-is, w.printed-is) w.begin_and_commit-printed.ensures.performs
      | in-Commit w ↦ rw (w.in-Commit.is, w.engine-is, w.disk-is, w.printed-is) w.commit-printed.ensures.performs
      | in-Rollback w ↦ rw (w.in-Rollback.is, w.engine-is, w.disk-is, w.printed-is) (w.rollback-printed.ensures disk)
      | in-Reopen w ↦ rw (w.in-Reopen.is, w.engine-is, w.disk-is, w.printed-is) (unbuilt c.args.engine.now disk _ w.not_built-printed.ensures)
    ]
