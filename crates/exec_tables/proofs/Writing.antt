-- What each case of the table writes beside the semaphore.
use Rattle.std.proofs.Common.{◌≡◌, ℕ, List, true, Option, None, Some, is_some, ap, sym, ◌∙◌, refl, subst, arith}
use Rattle.std.proofs.lemmas.Bool.{true≢false}
use Rattle.std.specs.Ordering.{nat_cmp}
use Rattle.std.specs.Cmp.{nat_cmp_total}
use Rattle.std.specs.FinMap.{nat_cmp-IsAntisymmetric}
use Rattle.job_states.specs.declared.command.Kind.{Kind}
use Rattle.job_states.specs.declared.job.JobRow.{JobRow}
use Rattle.job_states.specs.declared.job.State.{State}
use Rattle.job_states.specs.declared.job.State.TheVariants as state
use Rattle.job_states.specs.declared.transition.Counters.{Counters}
use Rattle.job_states.specs.declared.transition.Put.{Put}
use Rattle.job_states.specs.declared.transition.Put.TheVariants as put
use Rattle.job_states.specs.declared.transition.Transition.{Transition}
use Rattle.job_states.specs.declared.transition.Transition.TheVariants.{Enqueue, Dispatch, Claim, Done, Fail, Release, Unblock, Retry, Register, Beat, Run}
use Rattle.queue_model.specs.Chain.{◌>>=◌}
use Rattle.queue_model.specs.Held.{holds}
use Rattle.queue_model.specs.Map.{Map, get, insert}
use Rattle.queue_model.specs.Sights.{Rows, Sight, sees, set, pid_of, with_run, without_job}
use Rattle.queue_model.specs.Transitions.{changes, anew, counted}
use Rattle.queue_model.specs.World.{World, job, text_cmp, run_cmp}
use Rattle.queue_model.specs.declared.Job.{Job}
use Rattle.queue_model.specs.declared.Process.{Process}
use Rattle.queue_model.proofs.Maps.{get-set_itself, same_map}
use Rattle.transition_table.specs.Seen.{job_seen, permit_of}
use Rattle.exec_tables.specs.Apply.{Written, state_put}

-- the transition that it is
pub at : (w : World) (m : ℕ) (rows : Rows) (t x : Transition) (jobs : Map nat_cmp Job) (processes : Map nat_cmp Process) (paused : Map text_cmp (Unit {0})) (last_runs : Map text_cmp ℕ) (recurring : Map run_cmp ℕ) → t ≡ x → (changes m (sees w (holds w x)) x ≡ Some rows → Written w x rows jobs processes paused last_runs recurring) → changes m (sees w (holds w t)) t ≡ Some rows → Written w t rows jobs processes paused last_runs recurring
at w m rows t x jobs processes paused last_runs recurring e f = subst (λ y. changes m (sees w (holds w y)) y ≡ Some rows → Written w y rows jobs processes paused last_runs recurring) (sym e) f

-- ---- a job that stays

-- the job is there and becomes this one, and the process stays
pub record Moves (s : Sight) (rows : Rows) (k : Job → Job) : Type 0 where
  pub there : is_some s.rows.job ≡ true
  pub becomes : (j : Job) → s.rows.job ≡ Some j → rows.job ≡ Some (k j)
  pub process : rows.process ≡ s.rows.process

set_itself : {X : Type 0} (m : Map nat_cmp X) (k : Option ℕ) → set m k (k >>= get m) ≡ m
set_itself m None = refl
set_itself m (Some k) = same_map nat_cmp_total nat_cmp-IsAntisymmetric (set m (Some k) (get m k)) m (get-set_itself nat_cmp_total m k)

pub moved : (w : World) (t : Transition) (rows : Rows) (id : ℕ) (k : Job → Job) (new : Map nat_cmp Job) → (holds w t).job ≡ Some id → (holds w t).queue ≡ None → (holds w t).task ≡ None → Moves (sees w (holds w t)) rows k → ((j : Job) → get w.jobs id ≡ Some j → new ≡ insert w.jobs id (k j)) → Written w t rows new w.processes w.paused w.last_runs w.recurring
moved w t rows id k new named no_queue no_task moves wrote = by (get w.jobs id) refl
  where
    found : ((holds w t).job >>= get w.jobs) ≡ get w.jobs id
    found = ap (λ o. o >>= get w.jobs) named

    by : (o : Option Job) → get w.jobs id ≡ o → Written w t rows new w.processes w.paused w.last_runs w.recurring
    by None e = absurd (true≢false (sym moves.there ∙ ap is_some (found ∙ e)))
    by (Some j) e = let is = moves.becomes j (found ∙ e) in record {
      jobs_are = wrote j e ∙ (λ i. set w.jobs (sym named i) (sym is i));
      processes_are = sym (ap (set w.processes (pid_of (holds w t).process)) moves.process ∙ set_itself w.processes (pid_of (holds w t).process));
      paused_are = ap (λ q. set w.paused q rows.pause) (sym no_queue);
      last_runs_are = ap (λ q. set w.last_runs q rows.last_run) (sym no_task);
      recurring_are = λ i. with_run (without_job w.recurring (sym named i) (sym is i)) (sym no_task i) rows.last_run (holds w t).job;
    }

pub dispatched : (m : ℕ) (s : Sight) (id : ℕ) (p : Put) (x : State) (rows : Rows) → changes m s (Dispatch id p) ≡ Some rows → state_put p ≡ Some x → Moves s rows (λ j. job j.row x)
dispatched m s id (put.Ready permit) x rows h e = record { there = grind arith; becomes = λ j is. grind arith; process = grind arith }
dispatched m s id (put.Scheduled at) x rows h e = record { there = grind arith; becomes = λ j is. grind arith; process = grind arith }
dispatched m s id (put.Blocked until) x rows h e = record { there = grind arith; becomes = λ j is. grind arith; process = grind arith }
dispatched m s id put.Away x rows h e = record { there = grind arith; becomes = λ j is. grind arith; process = grind arith }

pub retried : (m : ℕ) (s : Sight) (id : ℕ) (p : Put) (x : State) (rows : Rows) → changes m s (Retry id p) ≡ Some rows → state_put p ≡ Some x → Moves s rows (λ j. job (anew j.row) x)
retried m s id (put.Ready permit) x rows h e = record { there = grind arith; becomes = λ j is. grind arith; process = grind arith }
retried m s id (put.Scheduled at) x rows h e = record { there = grind arith; becomes = λ j is. grind arith; process = grind arith }
retried m s id (put.Blocked until) x rows h e = record { there = grind arith; becomes = λ j is. grind arith; process = grind arith }
retried m s id put.Away x rows h e = record { there = grind arith; becomes = λ j is. grind arith; process = grind arith }

pub claimed : (m : ℕ) (s : Sight) (id pid : ℕ) (permit : Option ℕ) (rows : Rows) → changes m s (Claim id pid) ≡ Some rows → permit ≡ permit_of (job_seen rows.job) → Moves s rows (λ j. job j.row (state.Claimed pid permit))
claimed m s id pid permit rows h e = record { there = grind arith; becomes = λ j is. grind arith; process = grind arith }

pub done : (m : ℕ) (s : Sight) (id : ℕ) (rows : Rows) → changes m s (Done id) ≡ Some rows → Moves s rows (λ j. job j.row (state.Finished m))
done m s id rows h = record { there = grind arith; becomes = λ j is. grind arith; process = grind arith }

pub failed : (m : ℕ) (s : Sight) (id : ℕ) (error message : List ℕ) (counters : Option Counters) (rows : Rows) → changes m s (Fail id error message counters) ≡ Some rows → Moves s rows (λ j. job (counted j.row counters) (state.Failed error message))
failed m s id error message counters rows h = record { there = grind arith; becomes = λ j is. grind arith; process = grind arith }

pub released : (m : ℕ) (s : Sight) (id : ℕ) (permit : Option ℕ) (rows : Rows) → changes m s (Release id) ≡ Some rows → permit ≡ permit_of (job_seen rows.job) → Moves s rows (λ j. job j.row (state.Ready permit))
released m s id permit rows h e = record { there = grind arith; becomes = λ j is. grind arith; process = grind arith }

pub unblocked : (m : ℕ) (s : Sight) (id generation : ℕ) (rows : Rows) → changes m s (Unblock id generation) ≡ Some rows → Moves s rows (λ j. job j.row (state.Ready (Some generation)))
unblocked m s id generation rows h = record { there = grind arith; becomes = λ j is. grind arith; process = grind arith }

-- ---- a new job

becomes_new : (m : ℕ) (s : Sight) (row : JobRow) (p : Put) (x : State) (rows : Rows) → changes m s (Enqueue row p) ≡ Some rows → state_put p ≡ Some x → rows.job ≡ Some (job row x)
becomes_new m s row (put.Ready permit) x rows h e = grind arith
becomes_new m s row (put.Scheduled at) x rows h e = grind arith
becomes_new m s row (put.Blocked until) x rows h e = grind arith
becomes_new m s row put.Away x rows h e = grind arith

pub enqueued : (w : World) (m : ℕ) (row : JobRow) (p : Put) (x : State) (rows : Rows) (new : Map nat_cmp Job) → state_put p ≡ Some x → new ≡ insert w.jobs row.id (job row x) → changes m (sees w (holds w (Enqueue row p))) (Enqueue row p) ≡ Some rows → Written w (Enqueue row p) rows new w.processes w.paused w.last_runs w.recurring
enqueued w m row p x rows new e wrote h = let is = becomes_new m (sees w (holds w (Enqueue row p))) row p x rows h e in record {
  jobs_are = wrote ∙ ap (set w.jobs (Some row.id)) (sym is);
  processes_are = refl;
  paused_are = refl;
  last_runs_are = refl;
  recurring_are = ap (without_job w.recurring (Some row.id)) (sym is);
}

-- ---- processes

becomes_registered : (m : ℕ) (s : Sight) (pid : ℕ) (kind : Kind) (name : List ℕ) (rows : Rows) → changes m s (Register pid kind name) ≡ Some rows → rows.process ≡ Some (record { kind = kind; name = name; since = m; beat = m })
becomes_registered m s pid kind name rows h = grind arith

pub registered : (w : World) (m : ℕ) (pid : ℕ) (kind : Kind) (name : List ℕ) (rows : Rows) (new : Map nat_cmp Process) → new ≡ insert w.processes pid (record { kind = kind; name = name; since = m; beat = m }) → changes m (sees w (holds w (Register pid kind name))) (Register pid kind name) ≡ Some rows → Written w (Register pid kind name) rows w.jobs new w.paused w.last_runs w.recurring
registered w m pid kind name rows new wrote h = record {
  jobs_are = refl;
  processes_are = wrote ∙ ap (set w.processes (Some pid)) (sym (becomes_registered m (sees w (holds w (Register pid kind name))) pid kind name rows h));
  paused_are = refl;
  last_runs_are = refl;
  recurring_are = refl;
}

becomes_beaten : (m : ℕ) (s : Sight) (pid : ℕ) (p : Process) (rows : Rows) → changes m s (Beat pid) ≡ Some rows → s.rows.process ≡ Some p → rows.process ≡ Some (record p { beat = m })
becomes_beaten m s pid p rows h e = grind arith

there_beaten : (m : ℕ) (s : Sight) (pid : ℕ) (rows : Rows) → changes m s (Beat pid) ≡ Some rows → is_some s.rows.process ≡ true
there_beaten m s pid rows h = grind arith

pub beaten : (w : World) (m : ℕ) (pid : ℕ) (rows : Rows) (new : Map nat_cmp Process) → ((p : Process) → get w.processes pid ≡ Some p → new ≡ insert w.processes pid (record p { beat = m })) → changes m (sees w (holds w (Beat pid))) (Beat pid) ≡ Some rows → Written w (Beat pid) rows w.jobs new w.paused w.last_runs w.recurring
beaten w m pid rows new wrote h = record {
  jobs_are = refl;
  processes_are = by (get w.processes pid) refl;
  paused_are = refl;
  last_runs_are = refl;
  recurring_are = refl;
}
  where
    by : (o : Option Process) → get w.processes pid ≡ o → new ≡ set w.processes (Some pid) rows.process
    by None e = absurd (true≢false (sym (there_beaten m (sees w (holds w (Beat pid))) pid rows h) ∙ ap is_some e))
    by (Some p) e = wrote p e ∙ ap (set w.processes (Some pid)) (sym (becomes_beaten m (sees w (holds w (Beat pid))) pid p rows h e))

-- ---- runs

becomes_last : (m : ℕ) (s : Sight) (task : List ℕ) (time : ℕ) (id : Option ℕ) (rows : Rows) → changes m s (Run task time id) ≡ Some rows → rows.last_run ≡ Some time
becomes_last m s task time id rows h = grind arith

same_job : (m : ℕ) (s : Sight) (task : List ℕ) (time : ℕ) (id : Option ℕ) (rows : Rows) → changes m s (Run task time id) ≡ Some rows → rows.job ≡ s.rows.job
same_job m s task time id rows h = grind arith

has_job : (m : ℕ) (s : Sight) (task : List ℕ) (time id : ℕ) (rows : Rows) → changes m s (Run task time (Some id)) ≡ Some rows → is_some rows.job ≡ true
has_job m s task time id rows h = grind arith

none_goes : (recurring : Map run_cmp ℕ) (id : ℕ) (j : Option Job) → is_some j ≡ true → without_job recurring (Some id) j ≡ recurring
none_goes recurring id None e = absurd (true≢false (sym e))
none_goes recurring id (Some j) e = refl

pub ran : (w : World) (m : ℕ) (task : List ℕ) (time : ℕ) (id : Option ℕ) (rows : Rows) (last_runs : Map text_cmp ℕ) (recurring : Map run_cmp ℕ) → last_runs ≡ insert w.last_runs task time → recurring ≡ with_run w.recurring (Some task) (Some time) id → changes m (sees w (holds w (Run task time id))) (Run task time id) ≡ Some rows → Written w (Run task time id) rows w.jobs w.processes w.paused last_runs recurring
ran w m task time id rows last_runs recurring wrote runs h = let is = becomes_last m s task time id rows h in record {
  jobs_are = sym (ap (set w.jobs id) (same_job m s task time id rows h) ∙ set_itself w.jobs id);
  processes_are = refl;
  paused_are = refl;
  last_runs_are = wrote ∙ ap (set w.last_runs (Some task)) (sym is);
  recurring_are = runs ∙ (λ i. with_run (sym (kept id h) i) (Some task) (sym is i) id);
}
  where
    s : Sight
    s = sees w (holds w (Run task time id))

    kept : (id : Option ℕ) → changes m (sees w (holds w (Run task time id))) (Run task time id) ≡ Some rows → without_job w.recurring id rows.job ≡ w.recurring
    kept None h = refl
    kept (Some id) h = none_goes w.recurring id rows.job (has_job m (sees w (holds w (Run task time (Some id)))) task time id rows h)
