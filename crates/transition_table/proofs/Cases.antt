-- What each legal transition makes of the job that it finds, case by case.
use Rattle.std.proofs.Common.{◌≡◌, ℕ, Option, None, Some, true, ap, sym, refl, arith, is_some}
use Rattle.std.proofs.lemmas.Bool.{true≢false}
use Rattle.job_states.specs.declared.job.Limited.{Limited}
use Rattle.job_states.specs.declared.transition.Put.{Put}
use Rattle.job_states.specs.declared.transition.Put.TheVariants.{Ready, Scheduled, Blocked, Away}
use Rattle.job_states.specs.declared.transition.Transition.{Transition}
use Rattle.job_states.specs.declared.transition.Transition.TheVariants.{Enqueue, Dispatch, Retry}
use Rattle.queue_model.proofs.Steps.{same_Some}
use Rattle.queue_model.specs.Sights.{Rows, Sight}
use Rattle.queue_model.specs.Transitions.{changes}
use Rattle.queue_model.specs.declared.Job.{Job}
use Rattle.transition_table.specs.Seen.{Seen, seen, all_seen, job_seen, stand_of, stand_at, stand_put, limited_then}
use Rattle.transition_table.specs.declared.found.Stand.{Stand}

-- where a job stands that is put there
pub dispatched : (m : ℕ) (s : Sight) (id : ℕ) (put : Put) (rows : Rows) → changes m s (Dispatch id put) ≡ Some rows → stand_put put ≡ stand_at (job_seen rows.job)
dispatched m s id (Ready permit) rows h = grind arith
dispatched m s id (Scheduled at) rows h = grind arith
dispatched m s id (Blocked until) rows h = grind arith
dispatched m s id Away rows h = grind arith

pub retried : (m : ℕ) (s : Sight) (id : ℕ) (put : Put) (rows : Rows) → changes m s (Retry id put) ≡ Some rows → stand_put put ≡ stand_at (job_seen rows.job)
retried m s id (Ready permit) rows h = grind arith
retried m s id (Scheduled at) rows h = grind arith
retried m s id (Blocked until) rows h = grind arith
retried m s id Away rows h = grind arith

-- the limit that it is under
pub limits : (m : ℕ) (s : Sight) (t : Transition) (rows : Rows) (j : Job) → changes m s t ≡ Some rows → rows.job ≡ Some j → limited_then t (job_seen s.rows.job) ≡ j.row.limited
limits m s (Enqueue row put) rows j h e = grind arith
limits m s t rows j h e = grind arith

-- both are all that is seen of it
pub whole : (o : Option Job) (stand : Stand) (limited : Option Limited) → Some stand ≡ stand_at (job_seen o) → ((j : Job) → o ≡ Some j → limited ≡ j.row.limited) → Some (record { stand = stand; limited = limited }) ≡ job_seen o
whole None stand limited h l = absurd (true≢false (ap is_some h))
whole (Some j) stand limited h l = λ i. Some (record { stand = same_Some stand (stand_of j.state) h i; limited = l j refl i })

-- ---- all rows

pub together : (o : Option Rows) (r : Seen) → is_some o ≡ true → ((rows : Rows) → o ≡ Some rows → r ≡ seen rows) → Some r ≡ all_seen o
together None r h is = absurd (true≢false (sym h))
together (Some rows) r h is = ap Some (is rows refl)
