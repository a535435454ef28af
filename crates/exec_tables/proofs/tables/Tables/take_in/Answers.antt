use Rattle.std.proofs.Common.{◌≡◌, Some, is_some, ap, sym, ◌∙◌, subst, arith}
use Rattle.std.specs.Option.{option_copied}
use Rattle.queue_model.specs.Chain.{◌>>=◌}
use Rattle.queue_model.specs.Held.{holds}
use Rattle.queue_model.specs.Map.{from_entries, get}
use Rattle.queue_model.specs.Named.{job_named}
use Rattle.queue_model.specs.Sights.{sees, set}
use Rattle.queue_model.specs.Transitions.{changes, step}
use Rattle.queue_model.specs.World.{World}
use Rattle.transition_table.specs.Seen.{job_seen, permit_of}
use Rattle.exec_tables.specs.Apply.{row_at}
use Rattle.exec_tables.proofs.Judging.{illegal, left, written_is}
use Rattle.exec_tables.proofs.tables.Tables.take_in.Goals as goal

pub returns-in_default-clause-legal : goal.returns-in_default-clause-legal
returns-in_default-clause-legal c =
    let w = c.args.self.now.world in
    illegal w c.args.moment c.args.step (sym c.in_default.is ∙ c.changes.ensures (sees w (holds w c.args.step)) c.sight.ensures)

pub write_semaphore-requires-clause-short : goal.write_semaphore-requires-clause-short
write_semaphore-requires-clause-short c = λ some.
    let w = c.args.self.now.world in
    let t = c.args.step in
    let l = left (changes c.args.moment (sees w (holds w t)) t) c.in-Some.seen (sym c.in-Some.is ∙ c.changes.ensures (sees w (holds w t)) c.sight.ensures) in
    c.key_held.ensures.short c.args.moment (sees w (holds w t)) l.rows l.legal (sym (ap (λ s. is_some s.semaphore) (c.seen.view_is ∙ l.seen_is)) ∙ some)

pub returns : goal.returns
returns c =
    let m = c.args.moment in
    let t = c.args.step in
    let now = c.args.self.now.world in
    let s = c.self.inside in
    let w : World = record { jobs = s.jobs.rows; semaphores = from_entries s.semaphores.entries; processes = from_entries s.processes.entries; paused = from_entries s.pauses.entries; last_runs = s.runs.last; recurring = s.runs.recurring; numbers = s.numbers } in
    let new : World = record { jobs = c.write_rows.new.jobs.rows; semaphores = from_entries c.write_semaphore.new.semaphores.entries; processes = from_entries c.write_rows.new.processes.entries; paused = from_entries c.write_rows.new.pauses.entries; last_runs = c.write_rows.new.runs.last; recurring = c.write_rows.new.runs.recurring; numbers = c.note.new.numbers } in
    let same : w ≡ now = ap (λ x. x.world) c.self.view_is in
    let l = left (changes m (sees now (holds now t)) t) c.in-Some.seen (sym c.in-Some.is ∙ c.changes.ensures (sees now (holds now t)) c.sight.ensures) in
    let seen_is = c.seen.view_is ∙ l.seen_is in
    let legal = subst (λ x. changes m (sees x (holds x t)) t ≡ Some l.rows) (sym same) l.legal in
    let key = c.key_held.ensures.held (job_named t >>= get w.jobs) (c.found-job.ensures ∙ ap (λ k. job_seen (row_at k s.jobs.rows)) c.job_named.ensures) in
    let made : step now m t ≡ Some new =
    subst (λ x. step x m t ≡ Some new) same
    (written_is w new m t l.rows (sym c.is_in_range.ensures.exact ∙ c.if-not-is_in_range.false) legal
    (c.write_rows.ensures.rows w l.rows legal (c.permit_of-permit.ensures ∙ ap (λ x. permit_of x.job) seen_is))
    (c.write_semaphore.ensures.rows ∙ (λ i. set w.semaphores (key i) (seen_is i).semaphore)) c.note.ensures) in
    let spare = ap (λ x. x.spare) c.self.view_is in
    record { legal = sym (ap is_some made); world = λ _. made; spare = λ _. omega (arith, spare) }
