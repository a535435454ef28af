-- The jobs that a walk has left, which stands past a place.
use Rattle.std.specs.Prelude.{ℕ, ℤ, ◌&&◌, is_none, List, [], ◌∷◌, ◌++◌, filter, flat_map, drop, Option, None, Bool}
use Rattle.queue_model.specs.Map as finite
use Rattle.queue_model.specs.World.{World}
use Rattle.queue_model.specs.declared.Job.{Job}
use Rattle.exec_tables.specs.Next.{is_above, is_any_ready, is_blocked_at, is_ready_in}
use Rattle.plan_model.specs.Orders.{placed, priority_cmp}
use Rattle.job_walks.specs.declared.selected.Queues.{Queues}
use Rattle.job_walks.specs.declared.selected.Queues.TheVariants.{Every, Named}

-- the jobs that pass and are past the place, in order
abbrev pub past_place : World → (Job → Bool) → Option (ℤ × ℕ) → List Job
past_place w passes past = finite.values (finite.retain_keys (placed (filter passes (finite.values w.jobs))) (is_above priority_cmp past))

-- of one queue
abbrev pub queue_left : World → (queue : List ℕ) → Option (ℤ × ℕ) → List Job
queue_left w queue past = past_place w (is_ready_in queue) past

-- it is ready, and its queue isn't paused
abbrev pub is_unpaused : World → Job → Bool
is_unpaused w j = is_any_ready j && is_none (finite.get w.paused j.row.queue)

-- of all queues
abbrev pub every_left : World → Option (ℤ × ℕ) → List Job
every_left w past = past_place w (is_unpaused w) past

-- of these queues in turn
abbrev pub named_left : World → (queues : List (List ℕ)) → Option (ℤ × ℕ) → List Job
named_left w [] past = []
named_left w (queue ∷ queues) past = queue_left w queue past ++ flat_map (λ q. queue_left w q None) queues

-- of those that wait for a key
abbrev pub waiting_left : World → (key : List ℕ) → Option (ℤ × ℕ) → List Job
waiting_left w key past = past_place w (is_blocked_at key) past

abbrev pub left : World → Queues → Option (ℤ × ℕ) → List Job
left w Every past = every_left w past
left w (Named names at) past = named_left w (drop at names.items) past
