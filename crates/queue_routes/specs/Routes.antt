-- Where the path of a request leads, and by which method.
use Rattle.std.specs.Prelude.{ℕ, ◌^◌, ◌&&◌, ◌==◌, List, [], ◌∷◌, length, nat_lt, codes, if◌then◌else◌, Option, None, Some, option_map, option_and_then, Result, Ok, Err}
use Prim.Native.String.{String}
use Rattle.std.specs.Char.{is_ascii_digit}
use Rattle.std.specs.List.{list_all, filter_map, find, slice_split}
use Rattle.std.specs.Str.{bytes_eq}
use Rattle.std.specs.Str.Parse.{digits_value}
use Rattle.job_states.specs.Length.{is_within, is_name}
use Rattle.queue_routes.specs.declared.fault.NoCommand.{NoCommand}
use Rattle.queue_routes.specs.declared.fault.NoCommand.TheVariants.{NoPath, OtherMethod}
use Rattle.queue_routes.specs.declared.routes.Place.{Place}
use Rattle.queue_routes.specs.declared.routes.Place.TheVariants.{Jobs, Bulk, Processes, Beat, Process, Poll, Done, Raised, Release, Tick, Dispatch, Expire, Unblock, Prune, Clear}

-- ---- paths

-- a path is cut at each slash; what stands before its first one is a segment as well
abbrev pub segments_of : List ℕ → List (List ℕ)
segments_of path = slice_split (λ b. b == 47) path

-- the number that 1 to 20 digits write, where it is below 2^64
abbrev pub number_of : List ℕ → Option ℕ
number_of text =
    if is_within 1 20 (length text) && list_all is_ascii_digit text && nat_lt (digits_value 10 text) (2 ^ 64)
    then Some (digits_value 10 text) else None

-- a text of 1 to 128 bytes
abbrev pub name_of : List ℕ → Option (List ℕ)
name_of text = if is_name text then Some text else None

-- ---- patterns

-- what a route has in a place of its path: a word, or a parameter
pub data Segment : Type 0 where
  word : List ℕ → Segment
  pid : Segment
  id : Segment
  task : Segment

-- the parameters of a path, which are taken as they are written
pub record Params : Type 0 where
  pub process : ℕ
  pub job : ℕ
  pub name : List ℕ

abbrev pub no_params : Params
no_params = record { process = 0; job = 0; name = [] }

-- the parameters after one more segment of the path, where it fits
abbrev pub with_segment : Segment → List ℕ → Params → Option Params
with_segment (word w) text params = if bytes_eq text w then Some params else None
with_segment pid text params = option_map (λ n. record params { process = n }) (number_of text)
with_segment id text params = option_map (λ n. record params { job = n }) (number_of text)
with_segment task text params = option_map (λ n. record params { name = n }) (name_of text)

-- the parameters of a path that fits a pattern, segment by segment
abbrev pub params_after : Params → List Segment → List (List ℕ) → Option Params
params_after params [] [] = Some params
params_after params [] (text ∷ path) = None
params_after params (segment ∷ pattern) [] = None
params_after params (segment ∷ pattern) (text ∷ path) = option_and_then (λ next. params_after next pattern path) (with_segment segment text params)

-- ---- the routes

pub record Route : Type 0 where
  pub method : List ℕ
  pub pattern : List Segment
  pub place : Params → Place

abbrev pub post : List Segment → (Params → Place) → Route
post pattern place = record { method = codes "POST"; pattern = word [] ∷ pattern; place = place }

abbrev pub delete : List Segment → (Params → Place) → Route
delete pattern place = record { method = codes "DELETE"; pattern = word [] ∷ pattern; place = place }

abbrev pub the : String → Segment
the text = word (codes text)

abbrev pub routes : List Route
routes =
    post (the "jobs" ∷ []) (λ p. Jobs)
    ∷ post (the "jobs" ∷ the "bulk" ∷ []) (λ p. Bulk)
    ∷ post (the "processes" ∷ []) (λ p. Processes)
    ∷ post (the "processes" ∷ pid ∷ the "beat" ∷ []) (λ p. Beat p.process)
    ∷ delete (the "processes" ∷ pid ∷ []) (λ p. Process p.process)
    ∷ post (the "processes" ∷ pid ∷ the "poll" ∷ []) (λ p. Poll p.process)
    ∷ post (the "processes" ∷ pid ∷ the "jobs" ∷ id ∷ the "done" ∷ []) (λ p. Done p.process p.job)
    ∷ post (the "processes" ∷ pid ∷ the "jobs" ∷ id ∷ the "raised" ∷ []) (λ p. Raised p.process p.job)
    ∷ post (the "processes" ∷ pid ∷ the "jobs" ∷ id ∷ the "release" ∷ []) (λ p. Release p.process p.job)
    ∷ post (the "processes" ∷ pid ∷ the "tick" ∷ task ∷ []) (λ p. Tick p.process p.name)
    ∷ post (the "upkeep" ∷ the "dispatch" ∷ []) (λ p. Dispatch)
    ∷ post (the "upkeep" ∷ the "expire" ∷ []) (λ p. Expire)
    ∷ post (the "upkeep" ∷ the "unblock" ∷ []) (λ p. Unblock)
    ∷ post (the "upkeep" ∷ the "prune" ∷ []) (λ p. Prune)
    ∷ post (the "upkeep" ∷ the "clear" ∷ []) (λ p. Clear)
    ∷ []

-- where a path leads by a method
pub record Way : Type 0 where
  pub method : List ℕ
  pub place : Place

abbrev pub way_of : List (List ℕ) → Route → Option Way
way_of path route = option_map (λ params. record { method = route.method; place = route.place params }) (params_after no_params route.pattern path)

-- where a path leads, by each method that it takes
unfoldable pub ways_of : List (List ℕ) → List Way
ways_of path = filter_map (way_of path) routes

abbrev pub by_way : Option Way → Result Place NoCommand
by_way None = Err OtherMethod
by_way (Some way) = Ok way.place

-- the path is judged first, and then the method
abbrev pub place_by : List ℕ → List Way → Result Place NoCommand
place_by method [] = Err NoPath
place_by method (way ∷ ways) = by_way (find (λ w. bytes_eq w.method method) (way ∷ ways))

abbrev pub place_of : List ℕ → List ℕ → Result Place NoCommand
place_of method path = place_by method (ways_of (segments_of path))

-- a parameter that has to be there
abbrev pub needed : {X : Type 0} → Option X → Result X NoCommand
needed None = Err NoPath
needed (Some x) = Ok x
