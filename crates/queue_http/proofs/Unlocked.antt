-- Where nothing is open no command is locked, so each refusal has a reply.
use Rattle.std.proofs.Common.{◌≡◌, ◌+◌, ◌^◌, ◌==◌, ◌&&◌, ℕ, Bool, true, false, not, cond, nat_le, nat_lt, is_none, List, [], ◌∷◌, ◌++◌, length, Option, None, Some, IfSome, Result, Ok, Err, sym, refl, subst}
use Rattle.std.specs.Cmp.{nat_cmp_total}
use Rattle.std.specs.FinMap.{nat_cmp-IsAntisymmetric}
use Rattle.job_states.specs.States.{is_claimed, is_failed, stage_of}
use Rattle.job_states.specs.declared.answer.Refused.{Refused}
use Rattle.job_states.specs.declared.answer.Refused.TheVariants.{UnknownClass, KeyRefused, Full, ClaimLimit, NoSuchJob, WrongState, NotClaimant, NoSuchProcess, SemaphoreClosed, NumbersSpent}
use Rattle.job_states.specs.declared.command.Command.{Command}
use Rattle.job_states.specs.declared.command.Command.TheVariants as command
use Rattle.job_states.specs.declared.command.NewJob.{NewJob}
use Rattle.job_states.specs.declared.job.Limited.{Limited}
use Rattle.job_states.specs.declared.job.Stage.{Stage}
use Rattle.job_states.specs.declared.job.State.{State}
use Rattle.job_states.specs.declared.job.State.TheVariants as state
use Rattle.job_states.specs.declared.row.Mode.{Mode}
use Rattle.job_states.specs.declared.row.Row.{Row}
use Rattle.queue_config.specs.Limits.{find_class, is_refused, limited_of}
use Rattle.queue_config.specs.declared.config.Config.{Config}
use Rattle.queue_model.specs.Chain.{◌>>=◌}
use Rattle.queue_model.specs.Map as map
use Rattle.queue_model.proofs.Maps.{same_map}
use Rattle.plan_model.specs.Begins.{unless_locked}
use Rattle.plan_model.specs.Books.{Book, claims_kept, jobs_kept, processes_kept}
use Rattle.plan_model.specs.JobCommands as job
use Rattle.plan_model.specs.Planned.{Drafted, planned, plan_with, unless_met}
use Rattle.plan_model.specs.Plans.{Plan}
use Rattle.plan_model.specs.Refusals.{claim_limit, first_met, full, is_shut_out, key_refused, no_room, no_such_job, no_such_process, not_claimant, numbers_spent, refuse, semaphore_closed, spent, unknown_class, wrong_state}
use Rattle.plan_model.specs.Scenes.{Scene, are_free}
use Rattle.plan_model.specs.UpkeepCommands as upkeep
use Rattle.plan_model.proofs.BooksFree.{not_locked_where_free}
use Rattle.queue_replies.specs.Refusals.{HasReply}
use Rattle.situation_model.specs.Situations.{Situation, begins, command_plan, is_about_jobs, scene_at}
use Rattle.queue_http.specs.Service.{IsIdle}

-- ---- causes

-- a cause, if it is met, has a reply
abbrev IsCause : Option Refused → Type 0
IsCause o = IfSome o HasReply

AreCauses : List (Option Refused) → Type 0
AreCauses [] = Unit {0}
AreCauses (o ∷ os) = IsCause o × AreCauses os

met : (causes : List (Option Refused)) → AreCauses causes → IsCause (first_met causes)
unfolding AreCauses
met [] all = tt
met (None ∷ causes) all = met causes all.1
met (Some refused ∷ causes) all = all.0

with_more : (causes more : List (Option Refused)) → AreCauses causes → AreCauses more → AreCauses (causes ++ more)
unfolding AreCauses
with_more [] more all rest = rest
with_more (o ∷ causes) more all rest = (all.0, with_more causes more all.1 rest)

one : (o : Option Refused) → IsCause o → AreCauses (o ∷ [])
unfolding AreCauses
one o cause = (cause, tt)

and : (o : Option Refused) (os : List (Option Refused)) → IsCause o → AreCauses os → AreCauses (o ∷ os)
unfolding AreCauses
and o os cause all = (cause, all)

none : AreCauses []
unfolding AreCauses
none = tt

tested : (b : Bool) (refused : Refused) → HasReply refused → IsCause (refuse b refused)
tested true refused reply = reply
tested false refused reply = tt

if_there : {A : Type 0} (o : Option A) (f : A → Option Refused) → ((x : A) → IsCause (f x)) → IsCause (o >>= f)
if_there None f causes = tt
if_there (Some x) f causes = causes x

-- ---- the causes of commands

abbrev claimant_by : (pid id : ℕ) → State → Option Refused
claimant_by pid id (state.Claimed p permit) = refuse (not (p == pid)) (NotClaimant id p)
claimant_by pid id state = None

claimed : (pid id : ℕ) (state : State) → IsCause (claimant_by pid id state)
claimed pid id (state.Claimed p permit) = tested (not (p == pid)) (NotClaimant id p) refl
claimed pid id (state.Scheduled at) = tt
claimed pid id (state.Ready permit) = tt
claimed pid id (state.Blocked until) = tt
claimed pid id (state.Failed error message) = tt
claimed pid id (state.Finished at) = tt

spent_cause : (before after : ℕ) → IsCause (spent before after)
spent_cause before after = tested (nat_lt before after && nat_lt (2 ^ 63 + 1) after) (NumbersSpent before) refl

module _ (s : Scene) where
  class_cause : (index : ℕ) (new : NewJob) → IsCause (unknown_class s index new)
  class_cause index new = tested (is_none (find_class new.class s.settings.classes)) (UnknownClass index new.class) refl

  key_cause : (index : ℕ) (new : NewJob) → IsCause (key_refused s index new)
  key_cause index new = tested (is_refused (limited_of s.settings new.class new.args)) (KeyRefused index) refl

  full_cause : (asked : ℕ) → IsCause (full s asked)
  full_cause asked = tested (nat_lt s.settings.jobs.kept_max (jobs_kept s.book + asked)) (Full (jobs_kept s.book)) refl

  room_cause : IsCause (no_room s)
  room_cause = tested (nat_le 1024 (processes_kept s.book)) (Full (processes_kept s.book)) refl

  process_cause : (pid : ℕ) → IsCause (no_such_process s pid)
  process_cause pid = tested (is_none (map.get s.book.world.processes pid)) (NoSuchProcess pid s.book.world.numbers.pid) refl

  limit_cause : (pid limit : ℕ) → IsCause (claim_limit s pid limit)
  limit_cause pid limit = tested (nat_lt 500 (claims_kept s.book pid + limit)) (ClaimLimit pid (claims_kept s.book pid)) refl

  job_cause : (id : ℕ) → IsCause (no_such_job s id)
  job_cause id = tested (is_none (map.get s.book.world.jobs id)) (NoSuchJob id s.book.world.numbers.job) refl

  state_cause : (id : ℕ) (passes : Option Stage → Bool) → IsCause (wrong_state s id passes)
  state_cause id passes =
      if_there (map.get s.book.world.jobs id) (λ j. refuse (not (passes (Some (stage_of j.state)))) (WrongState id (stage_of j.state)))
      (λ j. tested (not (passes (Some (stage_of j.state)))) (WrongState id (stage_of j.state)) refl)

  claimant_cause : (pid id : ℕ) → IsCause (not_claimant s pid id)
  claimant_cause pid id = if_there (map.get s.book.world.jobs id) (λ j. claimant_by pid id j.state) (λ j. claimed pid id j.state)

  abbrev closed_by : Limited → Option Refused
  closed_by limited = refuse (is_shut_out s.book.world (Some limited)) (SemaphoreClosed limited.key)

  closed_cause : (id : ℕ) → IsCause (semaphore_closed s id)
  closed_cause id =
      if_there (map.get s.book.world.jobs id) (λ j. j.row.limited >>= closed_by)
      (λ j. if_there j.row.limited closed_by (λ limited. tested (is_shut_out s.book.world (Some limited)) (SemaphoreClosed limited.key) refl))

  of_jobs : (news : List NewJob) (index : ℕ) → AreCauses (job.of_jobs s index news)
  of_jobs [] index = none
  of_jobs (new ∷ news) index = and _ _ (class_cause index new) (and _ _ (key_cause index new) (of_jobs news (index + 1)))

  of_claim : (pid id : ℕ) → AreCauses (job.of_claim s pid id)
  of_claim pid id = and _ _ (job_cause id) (and _ _ (state_cause id is_claimed) (one _ (claimant_cause pid id)))

  of_job_command : (c : Command) → AreCauses (job.refusals s c)
  of_job_command (command.Enqueue new) = with_more _ _ (of_jobs (new ∷ []) 0) (one _ (full_cause 1))
  of_job_command (command.Bulk news) = with_more _ _ (of_jobs news 0) (one _ (full_cause (length news)))
  of_job_command (command.Poll pid items limit) = and _ _ (process_cause pid) (one _ (limit_cause pid limit))
  of_job_command (command.Done pid id) = of_claim pid id
  of_job_command (command.Raised pid id error message) = of_claim pid id
  of_job_command (command.Release pid id) = of_claim pid id
  of_job_command (command.Retry id) = and _ _ (job_cause id) (and _ _ (state_cause id is_failed) (one _ (closed_cause id)))
  of_job_command (command.Discard id) = and _ _ (job_cause id) (one _ (state_cause id job.may_discard))
  of_job_command (command.RetryMany queue class) = none
  of_job_command (command.DiscardMany status queue class) = none
  of_job_command (command.Pause queue) = none
  of_job_command (command.Resume queue) = none
  of_job_command (command.Register kind name) = none
  of_job_command (command.Beat pid) = none
  of_job_command (command.Deregister pid) = none
  of_job_command command.Dispatch = none
  of_job_command command.Expire = none
  of_job_command command.Unblock = none
  of_job_command command.Prune = none
  of_job_command (command.Tick pid task) = none
  of_job_command (command.RunNow task) = none
  of_job_command command.ClearFinished = none

  of_upkeep_command : (c : Command) → AreCauses (upkeep.refusals s c)
  of_upkeep_command (command.Register kind name) = one _ room_cause
  of_upkeep_command (command.Beat pid) = one _ (process_cause pid)
  of_upkeep_command (command.Deregister pid) = one _ (process_cause pid)
  of_upkeep_command (command.Enqueue new) = none
  of_upkeep_command (command.Bulk news) = none
  of_upkeep_command (command.Poll pid items limit) = none
  of_upkeep_command (command.Done pid id) = none
  of_upkeep_command (command.Raised pid id error message) = none
  of_upkeep_command (command.Release pid id) = none
  of_upkeep_command (command.Retry id) = none
  of_upkeep_command (command.RetryMany queue class) = none
  of_upkeep_command (command.Discard id) = none
  of_upkeep_command (command.DiscardMany status queue class) = none
  of_upkeep_command (command.Pause queue) = none
  of_upkeep_command (command.Resume queue) = none
  of_upkeep_command command.Dispatch = none
  of_upkeep_command command.Expire = none
  of_upkeep_command command.Unblock = none
  of_upkeep_command command.Prune = none
  of_upkeep_command (command.Tick pid task) = none
  of_upkeep_command (command.RunNow task) = none
  of_upkeep_command command.ClearFinished = none

  of_numbers : (made : Drafted) → IsCause (numbers_spent s made.draft)
  of_numbers made =
      met _ (and _ _ (spent_cause s.book.given.job made.draft.given.job)
      (and _ _ (spent_cause s.book.given.pid made.draft.given.pid) (one _ (spent_cause s.book.given.generation made.draft.given.generation))))

-- ---- a command

abbrev HasReplied : Result Plan Refused → Type 0
HasReplied (Ok plan) = Unit {0}
HasReplied (Err refused) = HasReply refused

by_cause : (o : Option Refused) (plan : Plan) → IsCause o → HasReplied (unless_met o plan)
by_cause None plan cause = tt
by_cause (Some refused) plan cause = cause

planned_replies : (s : Scene) (causes : List (Option Refused)) (made : Drafted) → AreCauses causes → HasReplied (planned s causes made)
planned_replies s causes made all = by_cause (first_met (causes ++ numbers_spent s made.draft ∷ [])) (plan_with s made) (met _ (with_more causes _ all (one _ (of_numbers s made))))

command_replies : (s : Scene) (c : Command) → HasReplied (command_plan s c)
command_replies s c = by (is_about_jobs c)
  where
    by : (b : Bool) → HasReplied (cond b (job.job_plan s c) (upkeep.upkeep_plan s c))
    by true = planned_replies s (job.refusals s c) (job.does s c) (of_job_command s c)
    by false = planned_replies s (upkeep.refusals s c) (upkeep.does s c) (of_upkeep_command s c)

nothing_open : (b : Book) → IsIdle b → b.open_plans ≡ map.empty
nothing_open b idle = same_map nat_cmp_total nat_cmp-IsAntisymmetric b.open_plans map.empty idle

all_free : (b : Book) (rows : List (Row × Mode)) → b.open_plans ≡ map.empty → are_free b rows ≡ true
all_free b rows vacant = subst (λ m. are_free (record b { open_plans = m }) rows ≡ true) (sym vacant) (by rows)
  where
    by : (rows : List (Row × Mode)) → are_free (record b { open_plans = map.empty }) rows ≡ true
    by [] = refl
    by (r ∷ rows) = by rows

abbrev by_lock : Plan → Option Refused → Result Plan Refused
by_lock plan None = Ok plan
by_lock plan (Some refused) = Err refused

unlocked : (b : Book) → b.open_plans ≡ map.empty → (result : Result Plan Refused) → HasReplied result → HasReplied (unless_locked b result)
unlocked b vacant (Err refused) reply = reply
unlocked b vacant (Ok plan) reply = subst (λ o. HasReplied (by_lock plan o)) (sym (not_locked_where_free b plan.rows (all_free b plan.rows vacant))) tt

pub refusal_replies : (settings : Config) (s : Situation) (c : Command) (now : ℕ) (refused : Refused) → IsIdle s.book → begins settings s c now ≡ Err refused → HasReply refused
refusal_replies settings s c now refused idle is =
    subst HasReplied is (unlocked s.book (nothing_open s.book idle) (command_plan (scene_at settings s now) c) (command_replies (scene_at settings s now) c))
