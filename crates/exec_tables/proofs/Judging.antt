-- The world that is written by a legal transition, and what stops a transaction.
use Rattle.std.proofs.Common.{◌≡◌, ℕ, Bool, true, false, List, ◌∷◌, Option, None, Some, is_some, ap, sym, ◌∙◌, refl}
use Rattle.std.proofs.lemmas.Bool.{true≢false}
use Rattle.job_states.specs.Moment.{is_moment}
use Rattle.job_states.specs.Ranges.{is_in_range}
use Rattle.job_states.specs.declared.transition.Transition.{Transition}
use Rattle.queue_model.specs.Chain.{◌>>=◌, ◌>>◌, when}
use Rattle.queue_model.specs.Held.{holds}
use Rattle.queue_model.specs.Named.{noted}
use Rattle.queue_model.specs.Replay.{steps}
use Rattle.queue_model.specs.Sights.{Rows, sees, set}
use Rattle.queue_model.specs.Transitions.{changes, step}
use Rattle.queue_model.specs.World.{World}
use Rattle.queue_model.proofs.Steps.{same_Some, steps_to, world_after}
use Rattle.transition_table.specs.Seen.{Seen, all_seen, seen}
use Rattle.exec_tables.specs.Apply.{Written}

-- a transition that is out of its ranges, and one that the table doesn't allow
pub out_of_range : (w : World) (m : ℕ) (t : Transition) → is_in_range t ≡ false → false ≡ is_some (step w m t)
out_of_range w m t e = sym (ap (λ b. is_some (when b >> (changes m (sees w (holds w t)) t >>= (λ rows. Some (world_after w m t rows))))) e)

pub illegal : (w : World) (m : ℕ) (t : Transition) → None ≡ all_seen (changes m (sees w (holds w t)) t) → false ≡ is_some (step w m t)
illegal w m t e = by (is_in_range t) (changes m (sees w (holds w t)) t) e
  where
    by : (b : Bool) (o : Option Rows) → None ≡ all_seen o → false ≡ is_some (when b >> (o >>= (λ rows. Some (world_after w m t rows))))
    by false o e = refl
    by true None e = refl
    by true (Some rows) e = absurd (true≢false (sym (ap is_some e)))

-- the rows that a legal transition leaves
pub record Left (r : Seen) (o : Option Rows) : Type 0 where
  pub rows : Rows
  pub legal : o ≡ Some rows
  pub seen_is : r ≡ seen rows

pub left : (o : Option Rows) (r : Seen) → Some r ≡ all_seen o → Left r o
left None r e = absurd (true≢false (ap is_some e))
left (Some rows) r e = record { rows = rows; legal = refl; seen_is = same_Some r _ e }

pub written_is : (w v : World) (m : ℕ) (t : Transition) (rows : Rows) → is_in_range t ≡ true → changes m (sees w (holds w t)) t ≡ Some rows → Written w t rows v.jobs v.processes v.paused v.last_runs v.recurring → v.semaphores ≡ set w.semaphores (holds w t).key rows.semaphore → v.numbers ≡ noted w.numbers m t → step w m t ≡ Some v
written_is w v m t rows in_range legal written semaphores numbers =
    steps_to w m t rows in_range legal
    ∙ (λ i. Some (record {
      jobs = sym written.jobs_are i;
      semaphores = sym semaphores i;
      processes = sym written.processes_are i;
      paused = sym written.paused_are i;
      last_runs = sym written.last_runs_are i;
      recurring = sym written.recurring_are i;
      numbers = sym numbers i;
    }))

-- one that isn't legal in its turn
pub stops : (w v : World) (m : ℕ) (t : Transition) (rest left all : List Transition) → steps v m left ≡ steps w m all → left ≡ t ∷ rest → false ≡ is_some (step v m t) → false ≡ is_some (when (is_moment m) >> steps w m all)
stops w v m t rest left all same first e = by (is_moment m) (steps w m all) (by_step (step v m t) e ∙ ap is_some (ap (steps v m) (sym first) ∙ same))
  where
    by_step : (o : Option World) → false ≡ is_some o → false ≡ is_some (o >>= (λ u. steps u m rest))
    by_step None e = refl
    by_step (Some u) e = absurd (true≢false (sym e))

    by : (b : Bool) (o : Option World) → false ≡ is_some o → false ≡ is_some (when b >> o)
    by true o e = e
    by false o e = refl
