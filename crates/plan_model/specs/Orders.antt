-- In which order jobs are taken, and which are on offer.
use Rattle.std.specs.Prelude.{ℕ, ◌&&◌, Bool, List, [], ◌∷◌, map, filter, flat_map, Option, None, Some, ℤ}
use Rattle.std.specs.Ordering.{nat_cmp, int_cmp, ordering_then}
use Rattle.std.specs.declared.cmp.Ordering.{Ordering}
use Rattle.job_states.specs.States.{stage_of, is_ready, is_blocked}
use Rattle.job_states.specs.declared.row.Mode.TheVariants.{Alone}
use Rattle.job_states.specs.declared.row.Row.TheVariants as row
use Rattle.job_states.specs.Texts.{is_among}
use Rattle.queue_selector.specs.Groups.{groups_of}
use Rattle.queue_model.specs.Map as finite
use Rattle.queue_model.specs.World.{World, text_cmp, is_key}
use Rattle.queue_model.specs.declared.Job.{Job}
use Rattle.plan_model.specs.Books.{Book}
use Rattle.plan_model.specs.Scenes.{is_free}

-- by priority, then by number
abbrev pub priority_cmp : ℤ × ℕ → ℤ × ℕ → Ordering
priority_cmp a b = ordering_then (int_cmp a.0 b.0) (nat_cmp a.1 b.1)

abbrev pub place_of : Job → ℤ × ℕ
place_of j = (j.row.priority, j.row.id)

-- each at its place
abbrev pub placed : List Job → finite.Map priority_cmp Job
placed jobs = finite.from_entries (map (λ j. (place_of j, j)) jobs)

abbrev pub in_order : List Job → List Job
in_order jobs = finite.values (placed jobs)

abbrev pub first_of : {A : Type 0} → List A → Option A
first_of [] = None
first_of (x ∷ xs) = Some x

-- ---- blocked jobs

abbrev pub is_blocked_at : List ℕ → Job → Bool
is_blocked_at key j = is_blocked (Some (stage_of j.state)) && is_key key j.row.limited

-- the first blocked job of the key
abbrev pub first_blocked : World → List ℕ → Option Job
first_blocked w key = first_of (in_order (filter (is_blocked_at key) (finite.values w.jobs)))

-- ---- jobs on offer

abbrev pub ready_jobs : World → List Job
ready_jobs w = filter (λ j. is_ready (Some (stage_of j.state))) (finite.values w.jobs)

abbrev pub names_in : finite.Map text_cmp (Unit {0}) → List (List ℕ)
names_in names = map (λ e. e.0) names.entries

-- the queues that have a ready job, in byte order
abbrev pub ready_queues : World → List (List ℕ)
ready_queues w = names_in (finite.from_entries (map (λ j. (j.row.queue, tt)) (ready_jobs w)))

-- the ready jobs of the queues that the list selects: group by group, and in a group by priority and number
abbrev pub selected : World → (items : List (List ℕ)) → List Job
selected w items = flat_map (λ group. in_order (filter (λ j. is_among group j.row.queue) (ready_jobs w))) (groups_of items (ready_queues w) (names_in w.paused))

-- those whose row no open plan holds
abbrev pub on_offer : Book → (items : List (List ℕ)) → List Job
on_offer b items = filter (λ j. is_free b (row.Job j.row.id) Alone) (selected b.world items)
