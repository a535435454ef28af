-- The store with its open plans and the record in doubt, and what each call makes of them.
use Rattle.std.specs.Prelude.{ℕ, Bool, true, false, max, if◌then◌else◌, List, [], ◌∷◌, Option, None, Some, option_map, Result, Ok, Err}
use Rattle.job_states.specs.declared.answer.Answer.{Answer}
use Rattle.job_states.specs.declared.answer.Refused.{Refused}
use Rattle.job_states.specs.declared.command.Command.{Command}
use Rattle.job_states.specs.declared.command.Command.TheVariants as command
use Rattle.job_states.specs.declared.transition.Transaction.{Transaction}
use Rattle.job_states.specs.declared.transition.Transition.{Transition}
use Rattle.queue_config.specs.declared.config.Config.{Config}
use Rattle.queue_model.specs.Chain.{◌>>=◌, ◌>>◌, when}
use Rattle.queue_model.specs.Map as map
use Rattle.queue_model.specs.Replay.{after, replay}
use Rattle.queue_model.specs.World.{World}
use Rattle.plan_model.specs.Begins.{unless_locked}
use Rattle.plan_model.specs.Books.{Book, opened_over, with_applied, with_plan, without_plan}
use Rattle.plan_model.specs.JobCommands.{job_plan}
use Rattle.plan_model.specs.Plans.{Plan}
use Rattle.plan_model.specs.Scenes.{Scene}
use Rattle.plan_model.specs.UpkeepCommands.{upkeep_plan}

-- the record that may or may not be on the disk, if there is one
abbrev pub Doubt : Type 0
Doubt = Option (List Transaction)

pub record Situation : Type 0 where
  -- the greatest moment given is the moment of the numbers given
  pub book : Book
  pub doubt : Doubt

-- nothing is open, and nothing in doubt
abbrev pub situation_over : World → Situation
situation_over w = record { book = opened_over w; doubt = None }

-- the plan that is open at the seat
abbrev pub open_at : Situation → (seat : ℕ) → Option Plan
open_at s seat = map.get s.book.open_plans seat

-- the answer that its commit gives
abbrev pub answer_at : Situation → (seat : ℕ) → Option Answer
answer_at s seat = option_map (λ plan. plan.answer) (open_at s seat)

-- ---- begin

-- commands about jobs and queues; all others are those of maintenance
abbrev pub is_about_jobs : Command → Bool
is_about_jobs (command.Enqueue new) = true
is_about_jobs (command.Bulk news) = true
is_about_jobs (command.Poll pid items limit) = true
is_about_jobs (command.Done pid id) = true
is_about_jobs (command.Raised pid id error message) = true
is_about_jobs (command.Release pid id) = true
is_about_jobs (command.Retry id) = true
is_about_jobs (command.RetryMany queue class) = true
is_about_jobs (command.Discard id) = true
is_about_jobs (command.DiscardMany status queue class) = true
is_about_jobs (command.Pause queue) = true
is_about_jobs (command.Resume queue) = true
is_about_jobs c = false

-- the plan of a command, by its table, or its first refusal
abbrev pub command_plan : Scene → Command → Result Plan Refused
command_plan s c = if is_about_jobs c then job_plan s c else upkeep_plan s c

-- a command's moment is the clock's, or the greatest one given where that is greater
abbrev pub scene_at : Config → Situation → (now : ℕ) → Scene
scene_at settings s now = record { book = s.book; settings = settings; moment = max now s.book.given.moment }

-- the command's plan, or why it is refused or locked
abbrev pub begins : Config → Situation → Command → (now : ℕ) → Result Plan Refused
begins settings s c now = unless_locked s.book (command_plan (scene_at settings s now) c)

-- the plan is opened at the seat; where there is none nothing changes
abbrev pub begun : Situation → (seat : ℕ) → Result Plan Refused → Situation
begun s seat (Err refused) = s
begun s seat (Ok plan) = record s { book = with_plan s.book seat plan }

-- ---- commit and rollback

-- a plan without transitions writes no record
abbrev pub is_written : Transaction → Bool
is_written tx = by tx.steps
  where
    by : List Transition → Bool
    by [] = false
    by (t ∷ ts) = true

-- a commit that writes takes back what was in doubt
abbrev pub doubt_after : Transaction → Doubt → Doubt
doubt_after tx before = if is_written tx then None else before

-- the seat's transaction is applied, and its plan goes
abbrev pub committed : Situation → (seat : ℕ) → Option Situation
committed s seat = do
  plan ← open_at s seat
  end ← after s.book.world plan.tx
  Some (record { book = with_applied s.book seat end; doubt = doubt_after plan.tx s.doubt })

-- what a fault leaves in doubt: what was before, nothing, or the plan's own record
pub data Left : Type 0 where
  Before : Left
  Nothing : Left
  Own : Left

abbrev pub doubt_left : Left → Transaction → Doubt → Doubt
doubt_left Before tx before = before
doubt_left Nothing tx before = None
doubt_left Own tx before = Some (tx ∷ [])

-- a commit that writes meets a fault: the world stays, and the plan goes
abbrev pub faulted : Situation → (seat : ℕ) → Left → Option Situation
faulted s seat left = do
  plan ← open_at s seat
  when (is_written plan.tx)
  Some (record { book = without_plan s.book seat; doubt = doubt_left left plan.tx s.doubt })

-- the plan goes
abbrev pub rolled_back : Situation → (seat : ℕ) → Option Situation
rolled_back s seat = do
  plan ← open_at s seat
  Some (record s { book = without_plan s.book seat })

-- ---- checkpoint and reopening

abbrev pub checkpointed : Situation → Situation
checkpointed s = record s { doubt = None }

-- after a fault the doubt stays, or becomes none
abbrev pub checkpoint_faulted : Situation → (stays : Bool) → Situation
checkpoint_faulted s stays = if stays then s else checkpointed s

-- the world that an opening recovers: the one that was, or the replay of the doubt on it
abbrev pub recovered : Situation → (takes_in : Bool) → Option World
recovered s false = Some s.book.world
recovered s true = do
  txs ← s.doubt
  replay s.book.world txs

abbrev pub reopened : Situation → (takes_in : Bool) → Option Situation
reopened s takes_in = do
  w ← recovered s takes_in
  Some (situation_over w)
