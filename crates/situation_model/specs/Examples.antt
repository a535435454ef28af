-- Worked examples: what steps come to, one after another.
use Rattle.std.specs.Prelude.{◌≡◌, ℕ, List, [], ◌∷◌, ◌++◌, codes, pos, option_map, Option, None, Some, Err, true, false}
use Rattle.job_states.specs.declared.answer.Answer.{Answer}
use Rattle.job_states.specs.declared.answer.Answer.TheVariants as answer
use Rattle.job_states.specs.declared.answer.Outcome.TheVariants as outcome
use Rattle.job_states.specs.declared.answer.Refused.TheVariants.{Locked}
use Rattle.job_states.specs.declared.command.Command.{Command}
use Rattle.job_states.specs.declared.command.Command.TheVariants as command
use Rattle.job_states.specs.declared.command.Kind.TheVariants as kind
use Rattle.job_states.specs.declared.job.State.TheVariants as state
use Rattle.job_states.specs.declared.row.Row.TheVariants as row_of
use Rattle.job_states.specs.declared.transition.Put.TheVariants.{Ready}
use Rattle.job_states.specs.declared.transition.Transaction.{Transaction}
use Rattle.job_states.specs.declared.transition.Transition.TheVariants.{Enqueue}
use Rattle.queue_model.specs.Chain.{◌>>=◌}
use Rattle.queue_model.specs.Replay.{replay}
use Rattle.queue_model.specs.World.{World, empty, job}
use Rattle.queue_model.specs.declared.Job.{Job}
use Rattle.plan_model.specs.Cases.{class_a, class_b, key_g, made, new, numbers, polled, process, queue_q, row, settings, tx, world}
use Rattle.situation_model.specs.Situations.{Own, Situation, answer_at, begins, situation_over}
use Rattle.situation_model.specs.Steps.{Step, Begin, Commit, CommitFault, Reopen, Rollback, accepted, after_steps}

abbrev after_all : World → List Step → Option Situation
after_all w steps = after_steps (settings 1000) (situation_over w) steps

-- the answer that the seat's commit gives, after the steps
abbrev answer_after : World → List Step → (seat : ℕ) → Option Answer
answer_after w steps seat = do
  s ← after_all w steps
  answer_at s seat

-- ---- two open polls

abbrev ready : (id : ℕ) → ℕ × Job
ready id = (id, job (row id class_a queue_q (pos 0) 0 [] None) (state.Ready None))

abbrev four_ready : World
four_ready = world (ready 1 ∷ ready 2 ∷ ready 3 ∷ ready 4 ∷ []) [] ((1, process kind.Worker 0 0) ∷ []) [] [] (numbers 5 2 1 20)

abbrev poll : Command
poll = command.Poll 1 (codes "*" ∷ []) 2

abbrev two_of : (first second : ℕ) → Option Answer
two_of first second = Some (answer.Polled (polled first class_a queue_q (pos 0) 0 ∷ polled second class_a queue_q (pos 0) 0 ∷ []))

abbrev two_polls : List Step
two_polls = Begin 0 poll 30 ∷ Begin 1 poll 30 ∷ []

-- the second poll leaves out what the first one holds; where that is rolled back, a third poll gets it
abbrev pub PollsLeaveOutHeld : Type 0
PollsLeaveOutHeld =
    (answer_after four_ready two_polls 1 ≡ two_of 3 4)
    × (answer_after four_ready (two_polls ++ Commit 1 ∷ Rollback 0 ∷ Begin 2 poll 40 ∷ []) 2 ≡ two_of 1 2)

-- ---- a locked key

abbrev enqueue : (class : List ℕ) → Command
enqueue class = command.Enqueue (new class queue_q (pos 0) 0 [] None [])

-- a job of the same key waits for the commit; it has the next number, and is blocked
abbrev pub KeysAreLocked : Type 0
KeysAreLocked =
    (option_map (λ s. begins (settings 1000) s (enqueue class_b) 1) (after_all empty (Begin 0 (enqueue class_b) 1 ∷ [])) ≡ Some (Err (Locked (row_of.Key key_g) 0)))
    × (answer_after empty (Begin 0 (enqueue class_b) 1 ∷ Begin 1 (enqueue class_b) 1 ∷ Commit 0 ∷ Begin 1 (enqueue class_b) 2 ∷ []) 1 ≡ Some (answer.Enqueued (made (Some 2) outcome.Blocked)))

-- ---- a commit that meets a fault

abbrev in_doubt : List Step
in_doubt = Begin 0 (enqueue class_a) 1 ∷ CommitFault 0 Own ∷ []

abbrev first_enqueue : List Transaction
first_enqueue = tx 1 (Enqueue (row 1 class_a queue_q (pos 0) 0 [] None) (Ready None) ∷ []) ∷ []

abbrev world_after : List Step → Option World
world_after steps = option_map (λ s. s.book.world) (after_all empty steps)

abbrev accepted_in : List Step → List Transaction
accepted_in steps = accepted (settings 1000) (situation_over empty) steps

abbrev made_ready : (id : ℕ) → Option Answer
made_ready id = Some (answer.Enqueued (made (Some id) outcome.Ready))

-- the record may be on the disk; the number stays given
abbrev pub FaultsLeaveDoubt : Type 0
FaultsLeaveDoubt =
    (option_map (λ s. s.doubt) (after_all empty in_doubt) ≡ Some (Some first_enqueue))
    × (world_after in_doubt ≡ Some empty)
    × (answer_after empty (in_doubt ++ Begin 0 (enqueue class_a) 2 ∷ []) 0 ≡ made_ready 2)

-- a reopening that finds it accepts it
abbrev pub ReopeningsTakeIn : Type 0
ReopeningsTakeIn =
    (world_after (in_doubt ++ Reopen true ∷ []) ≡ replay empty first_enqueue)
    × (accepted_in (in_doubt ++ Reopen true ∷ []) ≡ first_enqueue)
    × (answer_after empty (in_doubt ++ Reopen true ∷ Begin 0 (enqueue class_a) 2 ∷ []) 0 ≡ made_ready 2)

-- one that doesn't find it leaves no trace of it, and its number is given again
abbrev pub ReopeningsLeaveOut : Type 0
ReopeningsLeaveOut =
    (after_all empty (in_doubt ++ Reopen false ∷ []) ≡ Some (situation_over empty))
    × (accepted_in (in_doubt ++ Reopen false ∷ []) ≡ [])
    × (answer_after empty (in_doubt ++ Reopen false ∷ Begin 0 (enqueue class_a) 2 ∷ []) 0 ≡ made_ready 1)
