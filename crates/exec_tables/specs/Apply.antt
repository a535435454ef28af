-- What is written of what a transition leaves.
use Rattle.std.specs.Prelude.{◌≡◌, ℕ, Option, None, Some}
use Rattle.std.specs.Ordering.{nat_cmp}
use Rattle.std.specs.declared.cmp.Ordering.{Ordering}
use Rattle.job_states.specs.declared.job.State.{State}
use Rattle.job_states.specs.declared.job.State.TheVariants.{Ready, Scheduled, Blocked}
use Rattle.job_states.specs.declared.transition.Put.{Put}
use Rattle.job_states.specs.declared.transition.Put.TheVariants as put
use Rattle.job_states.specs.declared.transition.Transition.{Transition}
use Rattle.queue_model.specs.Chain.{◌>>=◌}
use Rattle.queue_model.specs.Held.{holds}
use Rattle.queue_model.specs.Map as map
use Rattle.queue_model.specs.Map.{Map}
use Rattle.queue_model.specs.Sights.{Rows, set, pid_of, with_run, without_job}
use Rattle.queue_model.specs.World.{World, text_cmp, run_cmp}
use Rattle.queue_model.specs.declared.Job.{Job}
use Rattle.queue_model.specs.declared.Process.{Process}

-- what stands at the key, where there is one
abbrev pub row_at : {K X : Type 0} {R : K → K → Ordering} → Option K → Map R X → Option X
row_at k m = k >>= map.get m

abbrev pub with_tables : World → Map nat_cmp Job → Map nat_cmp Process → Map text_cmp (Unit {0}) → Map text_cmp ℕ → Map run_cmp ℕ → World
with_tables base jobs processes paused last_runs recurring = record base { jobs = jobs; processes = processes; paused = paused; last_runs = last_runs; recurring = recurring }

-- the tables but that of semaphores, with these rows in the place of those that the transition holds
pub record Written (w : World) (t : Transition) (rows : Rows) (jobs : Map nat_cmp Job) (processes : Map nat_cmp Process) (paused : Map text_cmp (Unit {0})) (last_runs : Map text_cmp ℕ) (recurring : Map run_cmp ℕ) : Type 0 where
  pub jobs_are : jobs ≡ set w.jobs (holds w t).job rows.job
  pub processes_are : processes ≡ set w.processes (pid_of (holds w t).process) rows.process
  pub paused_are : paused ≡ set w.paused (holds w t).queue rows.pause
  pub last_runs_are : last_runs ≡ set w.last_runs (holds w t).task rows.last_run
  pub recurring_are : recurring ≡ with_run (without_job w.recurring (holds w t).job rows.job) (holds w t).task rows.last_run (holds w t).job

-- the state of a job that is put there; none where it goes away
abbrev pub state_put : Put → Option State
state_put (put.Ready permit) = Some (Ready permit)
state_put (put.Scheduled at) = Some (Scheduled at)
state_put (put.Blocked until) = Some (Blocked until)
state_put put.Away = None
