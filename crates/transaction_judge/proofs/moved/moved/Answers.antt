use Rattle.std.proofs.Common.{is_some, ap, sym, ◌∙◌, arith}
use Rattle.std.specs.Option.{option_copied}
use Rattle.queue_model.specs.Held.{holds}
use Rattle.queue_model.specs.Named.{job_named}
use Rattle.queue_model.specs.Sights.{counted_at, pid_of, sees}
use Rattle.queue_model.specs.World.{holders, claims, is_claimed_by, is_holder}
use Rattle.queue_model.proofs.Steps.{step_is}
use Rattle.exec_tables.specs.Apply.{row_at}
use Rattle.transaction_judge.proofs.Following.{semaphore_followed, process_followed, pause_followed, last_run_followed, recounted}
use Rattle.transaction_judge.proofs.moved.moved.Goals as goal

pub returns-clause-is : goal.returns-clause-is
returns-clause-is c = λ u v h job peeks.
    let t = c.args.step.now in
    let m = c.args.moment in
    let g = c.args.generation in
    let r = step_is u v m t h in
    let s = sees u (holds u t) in
    let after = c.job_then-after.ensures s r.0 r.1.legal job in
    let there = c.there.view_is ∙ c.of-there.ensures.held (row_at (job_named t) u.jobs) job in
    let asked = c.held.view_is in
    let key = ap (λ h. h.key) asked in
    let queue = ap (λ h. h.queue) asked in
    let task = ap (λ h. h.task) asked in
    let claimant = c.pid_of-pid.ensures ∙ ap (λ h. pid_of h.process) asked in
    let pid = c.as_ref.ensures.value ∙ claimant in
    let pid_there = c.as_ref-2.ensures.value ∙ c.pid_of-pid_there.ensures ∙ ap (λ h. pid_of h.process) there in
    let semaphore = peeks.semaphore ∙ sym (ap (λ k. row_at k u.semaphores) key) in
    let registered = peeks.registered ∙ sym (ap (λ p. is_some (row_at p u.processes)) pid) in
    let paused = peeks.paused ∙ sym (ap (λ q. is_some (row_at q u.paused)) queue) in
    let last_run = peeks.last_run ∙ sym (ap (λ q. row_at q u.last_runs) task) in
    let held_before = c.holds.ensures (row_at (job_named t) u.jobs) job in
    let held_after = c.holds-2.ensures r.0.job after in
    let holders_moved = recounted u v m t r.0 r.1 (λ k. is_holder k g) (option_copied c.held.inside.key) in
    let holders_before = peeks.holders_are ∙ sym (ap (counted_at (λ k. holders u k g)) key) in
    let claimed_before = c.is_claimed.ensures (row_at (job_named t) u.jobs) job in
    let claimed_after = c.is_claimed-2.ensures r.0.job after in
    let claims_moved = recounted u v m t r.0 r.1 is_claimed_by c.pid_of-pid.result in
    let claims_before = peeks.claims_are ∙ sym (ap (counted_at (claims u)) claimant) in
    record {
      semaphore = c.follow.ensures
          ∙ semaphore_followed u v m t r.0 r.1 (option_copied c.held.inside.key) (option_copied c.there.inside.key) c.args.peek.semaphore c.semaphore_then-semaphore.result (ap (λ h. h.key) there) semaphore
          (λ e. c.semaphore_then-semaphore.ensures s r.0 r.1.legal job (semaphore ∙ ap (λ k. row_at k u.semaphores) e)) ∙ ap (λ k. row_at k v.semaphores) key;
      holders_are = c.recount.ensures.exact (counted_at (λ k. holders v k g) (option_copied c.held.inside.key)) (omega (arith, held_before, held_after, holders_moved, holders_before)) ∙ ap (counted_at (λ k. holders v k g)) key;
      registered = c.follow-2.ensures
          ∙ process_followed u v m t r.0 r.1 (option_copied c.as_ref.result) (option_copied c.as_ref-2.result) c.args.peek.is_registered c.is_registered_then-is_registered.result pid_there registered
          (λ e. c.is_registered_then-is_registered.ensures m s r.0 r.1.legal (registered ∙ ap (λ p. is_some (row_at p u.processes)) e)) ∙ ap (λ p. is_some (row_at p v.processes)) pid;
      claims_are = c.recount-2.ensures.exact (counted_at (claims v) c.pid_of-pid.result) (omega (arith, claimed_before, claimed_after, claims_moved, claims_before)) ∙ ap (counted_at (claims v)) claimant;
      paused = c.follow-3.ensures
          ∙ pause_followed u v m t r.0 r.1 (option_copied c.held.inside.queue) (option_copied c.there.inside.queue) c.args.peek.is_paused c.is_paused_then-is_paused.result (ap (λ h. h.queue) there) paused
          (λ e. c.is_paused_then-is_paused.ensures m s r.0 r.1.legal (paused ∙ ap (λ q. is_some (row_at q u.paused)) e)) ∙ ap (λ q. is_some (row_at q v.paused)) queue;
      last_run = c.follow-4.ensures
          ∙ last_run_followed u v m t r.0 r.1 (option_copied c.held.inside.task) (option_copied c.there.inside.task) c.args.peek.last_run c.last_run_then-last_run.result (ap (λ h. h.task) there) last_run
          (λ e. c.last_run_then-last_run.ensures m s r.0 r.1.legal (last_run ∙ ap (λ q. row_at q u.last_runs) e)) ∙ ap (λ q. row_at q v.last_runs) task;
    }
