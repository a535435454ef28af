-- How recurring executions are kept: by the place that their task has among the last runs, and by time.
use Rattle.std.specs.Prelude.{◌<◌, ◌&&◌, ℕ, Bool, nat_eq, List, [], length, map, Option, option_map, IsSome, slice_get, slice_index_or}
use Rattle.std.specs.List.{AllByRecursion, IsDistinct}
use Rattle.std.specs.Cmp.Lexicographic.{pointwise}
use Rattle.std.specs.Map.{keys_of, values_of}
use Rattle.std.specs.Ordering.{nat_cmp}
use Rattle.queue_model.specs.Map as map

-- the task at this place
abbrev pub task_at : List (List ℕ × ℕ) → ℕ → List ℕ
task_at last place = slice_index_or (keys_of last) place []

-- recurring executions, by the names of their tasks
abbrev pub named : List (List ℕ × ℕ) → List ((ℕ × ℕ) × ℕ) → List ((List ℕ × ℕ) × ℕ)
named last recurring = map (λ e. ((task_at last e.0.0, e.0.1), e.1)) recurring

abbrev pub same_run : ℕ × ℕ → ℕ × ℕ → Bool
same_run a b = nat_eq a.0 b.0 && nat_eq a.1 b.1

pub record AreRuns (last : List (List ℕ × ℕ)) (recurring : List ((ℕ × ℕ) × ℕ)) (jobs : map.Map nat_cmp (Unit {0})) : Type 0 where
  -- no task and no run stands twice
  pub tasks : IsDistinct (pointwise nat_eq) (keys_of last)
  pub runs : IsDistinct same_run (keys_of recurring)
  pub places : AllByRecursion (λ run. run.0 < length last) (keys_of recurring)
  -- each job that has a recurring execution is listed
  pub listed : AllByRecursion (λ id. IsSome (map.get jobs id)) (values_of recurring)

-- the run at this place and time with its job, where there is such a place
abbrev pub row_at : List (List ℕ × ℕ) → (place time id : ℕ) → Option ((List ℕ × ℕ) × ℕ)
row_at last place time id = option_map (λ e. ((e.0, time), id)) (slice_get last place)
