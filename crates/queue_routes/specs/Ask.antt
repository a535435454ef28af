-- What a request asks for.
use Rattle.std.specs.Prelude.{ℕ, ◌≤◌, List, All, Ok, Err}
use Rattle.job_states.specs.Judged.{◌>>=◌}
use Rattle.job_states.specs.Length.{IsName}
use Rattle.job_states.specs.declared.command.Command.{Command}
use Rattle.job_states.specs.declared.command.Command.TheVariants as command
use Rattle.job_envelope.specs.Ranges.{IsInRange}
use Rattle.http_wire.specs.declared.request.Request.{Request}
use Rattle.queue_routes.specs.declared.ask.Ask.{Ask}
use Rattle.queue_routes.specs.declared.ask.Ask.TheVariants as ask
use Rattle.queue_routes.specs.declared.fault.BodyMember.TheVariants as member
use Rattle.queue_routes.specs.declared.fault.NoCommand.TheVariants.{NoPath, OtherMethod, Body, NoMemory}
use Rattle.queue_routes.specs.declared.routes.Place.{Place}
use Rattle.queue_routes.specs.declared.routes.Place.TheVariants as place
use Rattle.queue_routes.specs.Bodies.{Judged, object_of, kind_at, name_at, limit_at, queues_at, message_at, job_of, jobs_of, IsFew}
use Rattle.queue_routes.specs.Routes.{place_of}

-- ---- the commands that need a body, whose members are judged in turn

abbrev pub enqueue_of : List ℕ → Judged Command
enqueue_of body = job_of body >>= λ job. Ok (command.Enqueue job)

abbrev pub bulk_of : List ℕ → Judged Command
bulk_of body = jobs_of body >>= λ jobs. Ok (command.Bulk jobs)

unfoldable pub register_of : List ℕ → Judged Command
register_of bytes = do
  body ← object_of bytes
  kind ← kind_at body
  name ← name_at member.Name body
  Ok (command.Register kind name)

unfoldable pub poll_of : ℕ → List ℕ → Judged Command
poll_of pid bytes = do
  body ← object_of bytes
  limit ← limit_at body
  queues ← queues_at body
  Ok (command.Poll pid queues limit)

unfoldable pub raised_of : ℕ → ℕ → List ℕ → Judged Command
raised_of pid id bytes = do
  body ← object_of bytes
  error ← name_at member.Error body
  message ← message_at body
  Ok (command.Raised pid id error message)

-- ---- the whole

-- what is asked for in a place; where no body is needed, it isn't looked at
abbrev pub command_at : Place → List ℕ → Judged Command
command_at place.Jobs body = enqueue_of body
command_at place.Bulk body = bulk_of body
command_at place.Processes body = register_of body
command_at (place.Beat pid) body = Ok (command.Beat pid)
command_at (place.Process pid) body = Ok (command.Deregister pid)
command_at (place.Poll pid) body = poll_of pid body
command_at (place.Done pid id) body = Ok (command.Done pid id)
command_at (place.Raised pid id) body = raised_of pid id body
command_at (place.Release pid id) body = Ok (command.Release pid id)
command_at (place.Tick pid task) body = Ok (command.Tick pid task)
command_at place.Dispatch body = Ok command.Dispatch
command_at place.Expire body = Ok command.Expire
command_at place.Unblock body = Ok command.Unblock
command_at place.Prune body = Ok command.Prune
command_at place.Clear body = Ok command.ClearFinished

abbrev pub command_of : Request → Judged Command
command_of request = place_of request.method request.path >>= λ place. command_at place request.body

-- want of memory is the cause of none
abbrev pub ask_from : Judged Command → Ask
ask_from (Ok command) = ask.Command command
ask_from (Err NoPath) = ask.NotBuilt
ask_from (Err OtherMethod) = ask.NotBuilt
ask_from (Err (Body fault)) = ask.Refused fault
ask_from (Err NoMemory) = ask.NotBuilt

abbrev pub ask_of : Request → Ask
ask_of request = ask_from (command_of request)

-- ---- ranges

-- what a command of a request brings is within its ranges
abbrev pub IsFit : Command → Type 0
IsFit (command.Enqueue job) = IsInRange job
IsFit (command.Bulk jobs) = IsFew 100 jobs × All IsInRange jobs
IsFit (command.Poll pid list limit) = IsFew 64 list × All IsName list × (1 ≤ limit) × (limit ≤ 100)
IsFit command = Unit {0}

abbrev pub AsksFit : Ask → Type 0
AsksFit (ask.Command command) = IsFit command
AsksFit ask = Unit {0}
