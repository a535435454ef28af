-- The commands of maintenance, line by line: why each is refused, and what it does.
use Rattle.std.specs.Prelude.{◌*◌, ℕ, Bool, false, nat_le, List, [], ◌∷◌, ◌++◌, length, map, filter, fold, flat_map, Option, None, Some, Result, codes, decimal, ℤ, if◌then◌else◌}
use Rattle.std.specs.Ordering.{nat_cmp, ordering_then}
use Rattle.std.specs.declared.cmp.Ordering.{Ordering}
use Rattle.job_states.specs.Moment.{later_moment}
use Rattle.job_states.specs.declared.answer.Answer.TheVariants as answer
use Rattle.job_states.specs.declared.answer.Refused.{Refused}
use Rattle.job_states.specs.declared.command.Command.{Command}
use Rattle.job_states.specs.declared.command.Command.TheVariants as command
use Rattle.job_states.specs.declared.job.Limited.{Limited}
use Rattle.job_states.specs.declared.job.State.{State}
use Rattle.job_states.specs.declared.job.State.TheVariants as state
use Rattle.job_states.specs.declared.row.Mode.TheVariants.{Alone}
use Rattle.job_states.specs.declared.row.Row.TheVariants as row
use Rattle.job_states.specs.declared.transition.Transition.TheVariants.{Fail, Release, Register, Beat, Deregister, Dispatch, Expire, Unblock, Clear}
use Rattle.semaphores.specs.Semaphore.{is_closed, is_expired}
use Rattle.queue_model.specs.Map as finite
use Rattle.queue_model.specs.World.{World, is_claimed_by, is_key}
use Rattle.queue_model.specs.declared.Job.{Job}
use Rattle.queue_model.specs.declared.Process.{Process}
use Rattle.plan_model.specs.Drafts.{Draft, begin, push, holding, meets, generation_at, end, each_free}
use Rattle.plan_model.specs.JobCommands.{counting}
use Rattle.plan_model.specs.Orders.{place_of, priority_cmp, in_order, first_of, names_in}
use Rattle.plan_model.specs.Planned.{Drafted, drafted, planned}
use Rattle.plan_model.specs.Plans.{Plan}
use Rattle.plan_model.specs.Refusals.{no_room, no_such_process}
use Rattle.plan_model.specs.Scenes.{Scene, are_free}

-- ---- why a command is refused

abbrev pub refusals : Scene → Command → List (Option Refused)
refusals s (command.Register kind name) = no_room s ∷ []
refusals s (command.Beat pid) = no_such_process s pid ∷ []
refusals s (command.Deregister pid) = no_such_process s pid ∷ []
refusals s c = []

-- in microseconds
abbrev pub seconds : ℕ → ℕ
seconds n = n * 1_000_000

-- ---- the claims of a process

-- by number
abbrev pub claimed_by : World → (pid : ℕ) → List Job
claimed_by w pid = filter (is_claimed_by pid) (finite.values w.jobs)

abbrev pub release_all : (moment : ℕ) → List Job → Draft → Draft
release_all m jobs d = fold (λ d j. push m (Release j.row.id) d) d jobs

-- ---- due jobs

-- by moment, priority and number
abbrev pub due_cmp : ℕ × (ℤ × ℕ) → ℕ × (ℤ × ℕ) → Ordering
due_cmp a b = ordering_then (nat_cmp a.0 b.0) (priority_cmp a.1 b.1)

-- a job that is due, with its place among them
abbrev pub due_entry : (moment : ℕ) → Job → List ((ℕ × (ℤ × ℕ)) × Job)
due_entry m j = by j.state
  where
    by : State → List ((ℕ × (ℤ × ℕ)) × Job)
    by (state.Scheduled at) = if nat_le at m then ((at, place_of j), j) ∷ [] else []
    by s = []

abbrev pub due_jobs : World → (moment : ℕ) → List Job
due_jobs w m = finite.values (placed (flat_map (due_entry m) (finite.values w.jobs)))
  where
    placed : List ((ℕ × (ℤ × ℕ)) × Job) → finite.Map due_cmp Job
    placed entries = finite.from_entries entries

abbrev pub dispatch_case : (moment : ℕ) → Job → Draft → Option Draft
dispatch_case m j d = Some (push m (Dispatch j.row.id (meets d m j.row.limited)) d)

-- ---- expired semaphores, in the byte order of their keys

abbrev pub expired_keys : World → (moment : ℕ) → List (List ℕ)
expired_keys w m = map (λ e. e.0) (filter (λ e. is_expired e.1 m) w.semaphores.entries)

abbrev pub expire_case : (moment : ℕ) → List ℕ → Draft → Option Draft
expire_case m key d = Some (push m (Expire key) d)

-- ---- blocked jobs whose time is over

abbrev pub is_overdue : (moment : ℕ) → Job → Bool
is_overdue m j = by j.state
  where
    by : State → Bool
    by (state.Blocked until) = nat_le until m
    by s = false

abbrev pub overdue_jobs : World → (moment : ℕ) → List Job
overdue_jobs w m = filter (is_overdue m) (finite.values w.jobs)

abbrev pub key_entry : Job → List (List ℕ × Unit {0})
key_entry j = by j.row.limited
  where
    by : Option Limited → List (List ℕ × Unit {0})
    by None = []
    by (Some limited) = (limited.key, tt) ∷ []

-- key by key in byte order, and of one key by priority and number
abbrev pub overdue : World → (moment : ℕ) → List (List ℕ × Job)
overdue w m = flat_map at_key (names_in (finite.from_entries (flat_map key_entry (overdue_jobs w m))))
  where
    at_key : List ℕ → List (List ℕ × Job)
    at_key key = map (λ j. (key, j)) (in_order (filter (λ j. is_key key j.row.limited) (overdue_jobs w m)))

-- it is unblocked where its key isn't closed
abbrev pub unblock_case : (moment : ℕ) → List ℕ × Job → Draft → Option Draft
unblock_case m e d = if is_closed (finite.get d.world.semaphores e.0) then None else Some (push m (Unblock e.1.row.id (generation_at d e.0)) d)

-- ---- pruning

abbrev pub pruned_message : Process → List ℕ
pruned_message p = codes "pruned: last beat " ++ decimal p.beat

abbrev pub fail_all : (moment : ℕ) → (message : List ℕ) → List Job → Draft → Draft
fail_all m message jobs d = fold (λ d j. (end m j.row.id (Fail j.row.id (codes "ProcessPrunedError") message None) d).0) d jobs

-- the claims of the process fail, and it goes
abbrev pub prune : Scene → (pid : ℕ) → Process → Drafted
prune s pid p = drafted
    (holding (row.Process pid) Alone (push s.moment (Deregister pid) (fail_all s.moment (pruned_message p) (claimed_by s.book.world pid) (begin s))))
    (answer.Pruned (length (claimed_by s.book.world pid)) (Some pid))

-- its last beat is as long ago as the threshold, or longer
abbrev pub is_silent : Scene → Process → Bool
is_silent s p = nat_le (later_moment p.beat (seconds s.settings.processes.alive_threshold)) s.moment

abbrev pub or_nothing : Scene → Option Drafted → Drafted
or_nothing s None = drafted (begin s) (answer.Pruned 0 None)
or_nothing s (Some made) = made

-- the first silent process whose rows are all free
abbrev pub prune_first : Scene → Drafted
prune_first s = or_nothing s (first_of (filter (λ made. are_free s.book made.draft.rows)
    (map (λ e. prune s e.0 e.1) (filter (λ e. is_silent s e.1) s.book.world.processes.entries))))

-- ---- clearing

abbrev pub is_over : Scene → Job → Bool
is_over s j = by j.state
  where
    by : State → Bool
    by (state.Finished at) = nat_le (later_moment at (seconds s.settings.jobs.clear_after)) s.moment
    by other = false

abbrev pub clear_case : (moment : ℕ) → Job → Draft → Option Draft
clear_case m j d = Some (push m (Clear j.row.id) d)

-- ---- what each command does

abbrev pub does : Scene → Command → Drafted
does s (command.Register kind name) = drafted (push s.moment (Register s.book.given.pid kind name) (begin s)) (answer.Registered s.book.given.pid)
does s (command.Beat pid) = drafted (push s.moment (Beat pid) (begin s)) (answer.Beaten pid)
does s (command.Deregister pid) = drafted (push s.moment (Deregister pid) (release_all s.moment (claimed_by s.book.world pid) (begin s))) (answer.Deregistered pid (length (claimed_by s.book.world pid)))
does s command.Dispatch = counting (each_free s s.settings.dispatcher.batch_size (map (dispatch_case s.moment) (due_jobs s.book.world s.moment)))
does s command.Expire = counting (each_free s 500 (map (expire_case s.moment) (expired_keys s.book.world s.moment)))
does s command.Unblock = counting (each_free s 500 (map (unblock_case s.moment) (overdue s.book.world s.moment)))
does s command.Prune = prune_first s
does s command.ClearFinished = counting (each_free s 500 (map (clear_case s.moment) (filter (is_over s) (finite.values s.book.world.jobs))))
does s c = drafted (begin s) answer.NotDue

-- the plan of a command of maintenance, or its first refusal
abbrev pub upkeep_plan : Scene → Command → Result Plan Refused
upkeep_plan s c = planned s (refusals s c) (does s c)
