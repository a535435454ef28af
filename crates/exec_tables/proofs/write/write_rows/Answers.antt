use Rattle.std.proofs.Common.{Some, ap, sym, ◌∙◌, refl, subst}
use Rattle.std.specs.Bool.{IsTrue}
use Rattle.job_states.specs.Ranges.{is_in_range}
use Rattle.job_states.specs.declared.transition.Transition.TheVariants.{Enqueue, Dispatch, Claim, Done, Fail, Release, Unblock, Retry, Register, Beat, Run}
use Rattle.queue_model.specs.Held.{holds}
use Rattle.queue_model.specs.Map.{from_entries, insert}
use Rattle.queue_model.specs.Sights.{sees}
use Rattle.queue_model.specs.World.{job}
use Rattle.queue_model.specs.Transitions.{counted}
use Rattle.transition_table.proofs.InRange.{limited}
use Rattle.exec_tables.specs.Apply.{with_tables}
use Rattle.exec_tables.proofs.Writing.{at, moved, enqueued, dispatched, retried, claimed, done, failed, released, unblocked, registered, beaten, ran}
use Rattle.exec_tables.proofs.write.write_rows.Goals as goal

pub returns-in-Some-clause-rows : goal.returns-in-Some-clause-rows
returns-in-Some-clause-rows c = λ base rows h permit.
    let w = with_tables base c.args.jobs.now.rows (from_entries c.args.processes.now.entries) (from_entries c.args.pauses.now.entries) c.args.runs.now.last c.args.runs.now.recurring in
    let m = c.args.moment in
    at w m rows c.args.step (Enqueue c.in-Enqueue.row c.in-Enqueue.put) c.insert.new.self.rows (from_entries c.args.processes.now.entries) (from_entries c.args.pauses.now.entries) c.args.runs.now.last c.args.runs.now.recurring c.in-Enqueue.is
    (λ legal. enqueued w m c.in-Enqueue.row c.in-Enqueue.put c.in-Some.state rows c.insert.new.self.rows (sym c.state_put.ensures ∙ c.in-Some.is) c.insert.ensures.rows legal) h

pub returns-in-Some-state_put-clause-rows : goal.returns-in-Some-state_put-clause-rows
returns-in-Some-state_put-clause-rows c = λ base rows h permit.
    let w = with_tables base c.args.jobs.now.rows (from_entries c.args.processes.now.entries) (from_entries c.args.pauses.now.entries) c.args.runs.now.last c.args.runs.now.recurring in
    let m = c.args.moment in
    at w m rows c.args.step (Dispatch c.in-Dispatch.id c.in-Dispatch.put) c.change.new.self.rows (from_entries c.args.processes.now.entries) (from_entries c.args.pauses.now.entries) c.args.runs.now.last c.args.runs.now.recurring c.in-Dispatch.is
    (λ legal. moved w (Dispatch c.in-Dispatch.id c.in-Dispatch.put) rows c.in-Dispatch.id _ c.change.new.self.rows refl refl refl (dispatched m (sees w (holds w (Dispatch c.in-Dispatch.id c.in-Dispatch.put))) c.in-Dispatch.id c.in-Dispatch.put c.in-Some-state_put.state rows legal (sym c.state_put-in-Dispatch.ensures ∙ c.in-Some-state_put.is)) c.change.ensures.there) h

pub returns-in-Claim-clause-rows : goal.returns-in-Claim-clause-rows
returns-in-Claim-clause-rows c = λ base rows h permit.
    let w = with_tables base c.args.jobs.now.rows (from_entries c.args.processes.now.entries) (from_entries c.args.pauses.now.entries) c.args.runs.now.last c.args.runs.now.recurring in
    let m = c.args.moment in
    at w m rows c.args.step (Claim c.in-Claim.id c.in-Claim.pid) c.change-in-Claim.new.self.rows (from_entries c.args.processes.now.entries) (from_entries c.args.pauses.now.entries) c.args.runs.now.last c.args.runs.now.recurring c.in-Claim.is
    (λ legal. moved w (Claim c.in-Claim.id c.in-Claim.pid) rows c.in-Claim.id _ c.change-in-Claim.new.self.rows refl refl refl (claimed m (sees w (holds w (Claim c.in-Claim.id c.in-Claim.pid))) c.in-Claim.id c.in-Claim.pid c.args.permit rows legal permit) c.change-in-Claim.ensures.there) h

pub returns-in-Done-clause-rows : goal.returns-in-Done-clause-rows
returns-in-Done-clause-rows c = λ base rows h permit.
    let w = with_tables base c.args.jobs.now.rows (from_entries c.args.processes.now.entries) (from_entries c.args.pauses.now.entries) c.args.runs.now.last c.args.runs.now.recurring in
    let m = c.args.moment in
    at w m rows c.args.step (Done c.in-Done.id) c.change-in-Done.new.self.rows (from_entries c.args.processes.now.entries) (from_entries c.args.pauses.now.entries) c.args.runs.now.last c.args.runs.now.recurring c.in-Done.is
    (λ legal. moved w (Done c.in-Done.id) rows c.in-Done.id _ c.change-in-Done.new.self.rows refl refl refl (done m (sees w (holds w (Done c.in-Done.id))) c.in-Done.id rows legal) c.change-in-Done.ensures.there) h

pub returns-in-Fail-clause-rows : goal.returns-in-Fail-clause-rows
returns-in-Fail-clause-rows c = λ base rows h permit.
    let w = with_tables base c.args.jobs.now.rows (from_entries c.args.processes.now.entries) (from_entries c.args.pauses.now.entries) c.args.runs.now.last c.args.runs.now.recurring in
    let m = c.args.moment in
    at w m rows c.args.step (Fail c.in-Fail.id c.in-Fail.error c.in-Fail.message c.in-Fail.counters) c.change-in-Fail.new.self.rows (from_entries c.args.processes.now.entries) (from_entries c.args.pauses.now.entries) c.args.runs.now.last c.args.runs.now.recurring c.in-Fail.is
    (λ legal. moved w (Fail c.in-Fail.id c.in-Fail.error c.in-Fail.message c.in-Fail.counters) rows c.in-Fail.id _ c.change-in-Fail.new.self.rows refl refl refl (failed m (sees w (holds w (Fail c.in-Fail.id c.in-Fail.error c.in-Fail.message c.in-Fail.counters))) c.in-Fail.id c.in-Fail.error c.in-Fail.message c.in-Fail.counters rows legal) c.change-in-Fail.ensures.there) h

pub returns-in-Release-clause-rows : goal.returns-in-Release-clause-rows
returns-in-Release-clause-rows c = λ base rows h permit.
    let w = with_tables base c.args.jobs.now.rows (from_entries c.args.processes.now.entries) (from_entries c.args.pauses.now.entries) c.args.runs.now.last c.args.runs.now.recurring in
    let m = c.args.moment in
    at w m rows c.args.step (Release c.in-Release.id) c.change-in-Release.new.self.rows (from_entries c.args.processes.now.entries) (from_entries c.args.pauses.now.entries) c.args.runs.now.last c.args.runs.now.recurring c.in-Release.is
    (λ legal. moved w (Release c.in-Release.id) rows c.in-Release.id _ c.change-in-Release.new.self.rows refl refl refl (released m (sees w (holds w (Release c.in-Release.id))) c.in-Release.id c.args.permit rows legal permit) c.change-in-Release.ensures.there) h

pub returns-in-Unblock-clause-rows : goal.returns-in-Unblock-clause-rows
returns-in-Unblock-clause-rows c = λ base rows h permit.
    let w = with_tables base c.args.jobs.now.rows (from_entries c.args.processes.now.entries) (from_entries c.args.pauses.now.entries) c.args.runs.now.last c.args.runs.now.recurring in
    let m = c.args.moment in
    at w m rows c.args.step (Unblock c.in-Unblock.id c.in-Unblock.generation) c.change-in-Unblock.new.self.rows (from_entries c.args.processes.now.entries) (from_entries c.args.pauses.now.entries) c.args.runs.now.last c.args.runs.now.recurring c.in-Unblock.is
    (λ legal. moved w (Unblock c.in-Unblock.id c.in-Unblock.generation) rows c.in-Unblock.id _ c.change-in-Unblock.new.self.rows refl refl refl (unblocked m (sees w (holds w (Unblock c.in-Unblock.id c.in-Unblock.generation))) c.in-Unblock.id c.in-Unblock.generation rows legal) c.change-in-Unblock.ensures.there) h

pub returns-in-Some-state_put-2-clause-rows : goal.returns-in-Some-state_put-2-clause-rows
returns-in-Some-state_put-2-clause-rows c = λ base rows h permit.
    let w = with_tables base c.args.jobs.now.rows (from_entries c.args.processes.now.entries) (from_entries c.args.pauses.now.entries) c.args.runs.now.last c.args.runs.now.recurring in
    let m = c.args.moment in
    at w m rows c.args.step (Retry c.in-Retry.id c.in-Retry.put) c.change-in-Some-state_put-2.new.self.rows (from_entries c.args.processes.now.entries) (from_entries c.args.pauses.now.entries) c.args.runs.now.last c.args.runs.now.recurring c.in-Retry.is
    (λ legal. moved w (Retry c.in-Retry.id c.in-Retry.put) rows c.in-Retry.id _ c.change-in-Some-state_put-2.new.self.rows refl refl refl (retried m (sees w (holds w (Retry c.in-Retry.id c.in-Retry.put))) c.in-Retry.id c.in-Retry.put c.in-Some-state_put-2.state rows legal (sym c.state_put-in-Retry.ensures ∙ c.in-Some-state_put-2.is)) (λ j e. c.change-in-Some-state_put-2.ensures.there j e ∙ ap (λ x. insert w.jobs c.in-Retry.id (job (counted j.row (Some x)) c.in-Some-state_put-2.state)) c.no_counters.ensures)) h

pub returns-in-Register-clause-rows : goal.returns-in-Register-clause-rows
returns-in-Register-clause-rows c = λ base rows h permit.
    let w = with_tables base c.args.jobs.now.rows (from_entries c.args.processes.now.entries) (from_entries c.args.pauses.now.entries) c.args.runs.now.last c.args.runs.now.recurring in
    let m = c.args.moment in
    at w m rows c.args.step (Register c.in-Register.pid c.in-Register.kind c.in-Register.name) c.args.jobs.now.rows (from_entries c.register.new.processes.entries) (from_entries c.args.pauses.now.entries) c.args.runs.now.last c.args.runs.now.recurring c.in-Register.is
    (λ legal. registered w m c.in-Register.pid c.in-Register.kind c.in-Register.name rows (from_entries c.register.new.processes.entries) c.register.ensures.rows legal) h

pub returns-in-Beat-clause-rows : goal.returns-in-Beat-clause-rows
returns-in-Beat-clause-rows c = λ base rows h permit.
    let w = with_tables base c.args.jobs.now.rows (from_entries c.args.processes.now.entries) (from_entries c.args.pauses.now.entries) c.args.runs.now.last c.args.runs.now.recurring in
    let m = c.args.moment in
    at w m rows c.args.step (Beat c.in-Beat.pid) c.args.jobs.now.rows (from_entries c.beat.new.processes.entries) (from_entries c.args.pauses.now.entries) c.args.runs.now.last c.args.runs.now.recurring c.in-Beat.is
    (λ legal. beaten w m c.in-Beat.pid rows (from_entries c.beat.new.processes.entries) c.beat.ensures.beaten legal) h

pub returns-clause-rows : goal.returns-clause-rows
returns-clause-rows c = λ base rows h permit.
    let w = with_tables base c.args.jobs.now.rows (from_entries c.args.processes.now.entries) (from_entries c.args.pauses.now.entries) c.args.runs.now.last c.args.runs.now.recurring in
    let m = c.args.moment in
    at w m rows c.args.step (Run c.in-Run.task c.in-Run.time c.in-Run.id) c.args.jobs.now.rows (from_entries c.args.processes.now.entries) (from_entries c.args.pauses.now.entries) c.note.new.self.last c.note.new.self.recurring c.in-Run.is
    (λ legal. ran w m c.in-Run.task c.in-Run.time c.in-Run.id rows c.note.new.self.last c.note.new.self.recurring c.note.ensures.last c.note.ensures.recurring legal) h

pub insert-requires-clause-limit : goal.insert-requires-clause-limit
insert-requires-clause-limit c = limited c.in-Enqueue.row c.in-Enqueue.put (subst (λ t. IsTrue (is_in_range t)) c.in-Enqueue.is c.requires.in_range)
