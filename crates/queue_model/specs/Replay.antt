-- Transactions, and lists of them.
use Rattle.std.specs.Prelude.{ℕ, List, [], ◌∷◌, Option, Some, IsTrue}
use Rattle.std.specs.List.{flat_map}
use Rattle.job_states.specs.Moment.{is_moment}
use Rattle.job_states.specs.declared.transition.Transaction.{Transaction}
use Rattle.job_states.specs.declared.transition.Transition.{Transition}
use Rattle.job_states.specs.declared.transition.Transition.TheVariants.{Run}
use Rattle.queue_model.specs.Chain.{◌>>=◌, ◌>>◌, when}
use Rattle.queue_model.specs.Map as map
use Rattle.queue_model.specs.Transitions.{step, is_after}
use Rattle.queue_model.specs.World.{World}

-- the world after transitions at one moment, where each is legal in its turn
abbrev pub steps : World → ℕ → List Transition → Option World
steps w m [] = Some w
steps w m (t ∷ ts) = do
  v ← step w m t
  steps v m ts

-- the world after a transaction, where it is legal
abbrev pub after : World → Transaction → Option World
after w tx = do
  when (is_moment tx.moment)
  steps w tx.moment tx.steps

-- the world after transactions, where each is legal in its turn
abbrev pub replay : World → List Transaction → Option World
replay w [] = Some w
replay w (tx ∷ txs) = do
  v ← after w tx
  replay v txs

-- ---- runs of tasks

-- the task and the time of a run
abbrev pub run_in : Transition → List (List ℕ × ℕ)
run_in (Run task time id) = (task, time) ∷ []
run_in t = []

abbrev pub runs_of : List Transaction → List (List ℕ × ℕ)
runs_of txs = flat_map (λ tx. flat_map run_in tx.steps) txs

-- the task's last run is before this one, or there is none
abbrev pub IsNewRun : World → List ℕ × ℕ → Type 0
IsNewRun w run = IsTrue (is_after run.1 (map.get w.last_runs run.0))
