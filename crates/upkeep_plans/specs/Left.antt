-- What a walk in an order has left, which stands past a place.
use Rattle.std.specs.Prelude.{ℕ, ℤ, Bool, List, ◌++◌, map, filter, flat_map, Option, Some}
use Rattle.std.specs.Option.{option_map}
use Rattle.std.specs.declared.cmp.Ordering.{Ordering}
use Rattle.semaphores.specs.Semaphore.{is_expired}
use Rattle.queue_model.specs.Map as finite
use Rattle.queue_model.specs.World.{World, is_claimed_by, is_key, text_cmp}
use Rattle.queue_model.specs.declared.Job.{Job}
use Rattle.queue_model.specs.declared.Process.{Process}
use Rattle.exec_tables.specs.Next.{is_above}
use Rattle.plan_model.specs.Orders.{in_order}
use Rattle.plan_model.specs.Scenes.{Scene}
use Rattle.plan_model.specs.UpkeepCommands.{due_cmp, due_entry, is_over, is_overdue, is_silent, key_entry, overdue_jobs}

-- the entries whose keys are past this one
abbrev pub past_key : {K X : Type 0} {R : K → K → Ordering} → finite.Map R X → (past : Option K) → List (K × X)
past_key {K} {X} {R} m past = (finite.retain_keys m (is_above R past)).entries

-- the jobs that pass, by number
abbrev pub jobs_left : World → (Job → Bool) → (past : ℕ) → List Job
jobs_left w passes past = map (λ e. e.1) (filter (λ e. passes e.1) (past_key w.jobs (Some past)))

abbrev pub claimed_left : World → (pid past : ℕ) → List Job
claimed_left w pid past = jobs_left w (is_claimed_by pid) past

abbrev pub over_left : Scene → (past : ℕ) → List Job
over_left s past = jobs_left s.book.world (is_over s) past

-- the keys of semaphores that are expired
abbrev pub expired_left : World → (moment : ℕ) → (past : Option (List ℕ)) → List (List ℕ)
expired_left w m past = map (λ e. e.0) (filter (λ e. is_expired e.1 m) (past_key w.semaphores past))

-- the processes that are silent
abbrev pub silent_left : Scene → (past : ℕ) → List (ℕ × Process)
silent_left s past = filter (λ e. is_silent s e.1) (past_key s.book.world.processes (Some past))

-- ---- due jobs, by moment, priority and number

abbrev pub due_placed : World → (moment : ℕ) → finite.Map due_cmp Job
due_placed w m = finite.from_entries (flat_map (due_entry m) (finite.values w.jobs))

abbrev pub due_place : ℕ × ℤ × ℕ → ℕ × (ℤ × ℕ)
due_place p = (p.0, (p.1, p.2))

abbrev pub due_left : World → (moment : ℕ) → (past : Option (ℕ × ℤ × ℕ)) → List Job
due_left w m past = map (λ e. e.1) (past_key (due_placed w m) (option_map due_place past))

-- ---- the keys for which a blocked job's time is over

abbrev pub overdue_keys : World → (moment : ℕ) → finite.Map text_cmp (Unit {0})
overdue_keys w m = finite.from_entries (flat_map key_entry (overdue_jobs w m))

abbrev pub keys_left : World → (moment : ℕ) → (past : Option (List ℕ)) → List (List ℕ)
keys_left w m past = map (λ e. e.0) (past_key (overdue_keys w m) past)

-- the overdue ones among these jobs, with their key
abbrev pub late_of : (moment : ℕ) → (key : List ℕ) → List Job → List (List ℕ × Job)
late_of m key jobs = map (λ j. (key, j)) (filter (is_overdue m) jobs)

-- all overdue jobs of the key, in their order
abbrev pub late_at : World → (moment : ℕ) → (key : List ℕ) → List (List ℕ × Job)
late_at w m key = map (λ j. (key, j)) (in_order (filter (λ j. is_key key j.row.limited) (overdue_jobs w m)))

-- those of the keys that are left
abbrev pub late_left : World → (moment : ℕ) → (past : Option (List ℕ)) → List (List ℕ × Job)
late_left w m past = flat_map (late_at w m) (keys_left w m past)

-- these jobs' and then those of the keys past theirs
abbrev pub late_from : Scene → (key : List ℕ) → List Job → List (List ℕ × Job)
late_from s key jobs = late_of s.moment key jobs ++ late_left s.book.world s.moment (Some key)
