use Rattle.std.proofs.Common.{◌≡◌, is_some, ap, ◌∙◌, rules}
use Rattle.std.specs.Option.{option_copied}
use Rattle.queue_model.specs.Chain.{◌>>=◌}
use Rattle.queue_model.specs.Map.{get}
use Rattle.queue_model.specs.Named.{job_named}
use Rattle.queue_model.specs.Sights.{counted_at, pid_of}
use Rattle.queue_model.specs.World.{claims, holders}
use Rattle.transition_table.specs.Seen.{is_fresh, job_seen}
use Rattle.exec_tables.specs.Apply.{row_at}
use Rattle.exec_tables.proofs.tables.Tables.sight.Goals as goal

pub returns : goal.returns
returns c =
    let w = c.args.self.now.world in
    let t = c.args.step.now in
    let jobs = ap (λ s. s.world.jobs) c.self.view_is in
    let job : c.found-job.result ≡ job_seen (row_at (job_named t) w.jobs) = c.found-job.ensures ∙ (λ i. job_seen (row_at (c.job_named.ensures i) (jobs i))) in
    let held = c.held.view_is ∙ c.of-held.ensures.held (row_at (job_named t) w.jobs) job in
    let key = ap (λ h. h.key) held in
    let pid = c.pid_of-pid.ensures ∙ ap (λ h. pid_of h.process) held in
    let found : c.and_then-semaphore.result ≡ row_at (option_copied c.held.inside.key) w.semaphores = search rules in
    let semaphore = found ∙ ap (λ k. row_at k w.semaphores) key in
    let registered : c.is_some_and.result ≡ is_some (row_at c.pid_of-pid.result w.processes) = search rules in
    let paused : c.is_some_and-2.result ≡ is_some (row_at (option_copied c.held.inside.queue) w.paused) = search rules in
    let last_run : c.and_then.result ≡ row_at (option_copied c.held.inside.task) w.last_runs = search rules in
    let claimed : c.map_or.result ≡ counted_at (claims w) c.pid_of-pid.result = search rules in
    λ i. record {
      rows = record {
        job = job i;
        semaphore = semaphore i;
        is_registered = (registered ∙ ap (λ p. is_some (row_at p w.processes)) pid) i;
        is_paused = (paused ∙ ap (λ h. is_some (row_at h.queue w.paused)) held) i;
        last_run = (last_run ∙ ap (λ h. row_at h.task w.last_runs) held) i;
      };
      is_fresh = (c.is_fresh_at-is_fresh.ensures ∙ (λ j. is_fresh (semaphore j) (λ g. counted_at (λ k. holders w k g) (key j)) (c.generation_named.ensures j))) i;
      claims = (claimed ∙ ap (counted_at (claims w)) pid) i;
    }
