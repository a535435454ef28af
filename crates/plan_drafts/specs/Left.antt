-- What the transitions of a draft leave, of what stood there at its begin.
use Rattle.std.specs.Prelude.{◌==◌, ℕ, Bool, List, map, fold, Option, None, Some, if◌then◌else◌}
use Rattle.std.specs.Str.{bytes_eq}
use Rattle.job_states.specs.declared.job.Limited.{Limited}
use Rattle.job_states.specs.declared.transition.Transition.{Transition}
use Rattle.semaphores.specs.Semaphore.{Semaphore}
use Rattle.queue_model.specs.World.{World}
use Rattle.transition_table.specs.Seen.{Found}
use Rattle.transition_table.specs.declared.found.Stand.{Stand}
use Rattle.plan_model.specs.Drafts.{moved}
use Rattle.plan_drafts.specs.declared.pushed.Pushed.{Pushed}

abbrev pub steps_of : List Pushed → List Transition
steps_of pushed = map (λ p. p.step) pushed

-- the world after these transitions
abbrev pub world_after : World → (moment : ℕ) → List Pushed → World
world_after w m pushed = fold (λ now p. moved now m p.step) w pushed

-- what stands at a key once this was left
abbrev pub left_at : {K X : Type 0} → (is_key : K → Bool) → Option (K × X) → X → X
left_at is_key None now = now
left_at is_key (Some left) now = if is_key left.0 then left.1 else now

-- where the job stands after these transitions, of where it stood before them
abbrev pub stand_after : List Pushed → (id : ℕ) → Option Stand → Option Stand
stand_after pushed id before = fold (λ now p. left_at (λ other. other == id) p.job now) before pushed

-- the semaphore of the key after them, of the one before them
abbrev pub semaphore_after : List Pushed → (key : List ℕ) → Option Semaphore → Option Semaphore
semaphore_after pushed key before = fold (λ now p. left_at (λ other. bytes_eq other key) p.semaphore now) before pushed

-- a job of this limit, where it stands
abbrev pub found_at : Option Limited → Option Stand → Option Found
found_at limited None = None
found_at limited (Some stand) = Some (record { stand = stand; limited = limited })
