-- The commands about jobs and queues, line by line: why each is refused, and what it does.
use Rattle.std.specs.Prelude.{◌+◌, ℕ, zero, suc, Bool, true, false, ◌&&◌, ◌||◌, not, min, nat_le, nat_lt, if◌then◌else◌, List, [], ◌∷◌, ◌++◌, length, map, filter, fold, take, slice_index_or, Option, None, Some, is_some, Result, Ok, Err}
use Rattle.std.specs.Str.{bytes_eq}
use Rattle.job_states.specs.Moment.{later_moment}
use Rattle.job_states.specs.States.{stage_of, is_scheduled, is_ready, is_blocked, is_claimed, is_failed, is_finished}
use Rattle.job_states.specs.declared.answer.Answer.TheVariants as answer
use Rattle.job_states.specs.declared.answer.Made.{Made}
use Rattle.job_states.specs.declared.answer.Outcome.TheVariants as outcome
use Rattle.job_states.specs.declared.answer.Polled.{Polled}
use Rattle.job_states.specs.declared.answer.Refused.{Refused}
use Rattle.job_states.specs.declared.command.Command.{Command}
use Rattle.job_states.specs.declared.command.Command.TheVariants as command
use Rattle.job_states.specs.declared.command.NewJob.{NewJob}
use Rattle.job_states.specs.declared.job.JobRow.{JobRow}
use Rattle.job_states.specs.declared.job.Limited.{Limited}
use Rattle.job_states.specs.declared.job.Stage.{Stage}
use Rattle.job_states.specs.declared.job.Stage.TheVariants as stage
use Rattle.job_states.specs.declared.row.Mode.TheVariants.{Shared, Alone}
use Rattle.job_states.specs.declared.row.Row.TheVariants as row
use Rattle.job_states.specs.declared.transition.Transition.{Transition}
use Rattle.job_states.specs.declared.transition.Transition.TheVariants.{Claim, Done, Fail, Release, Retry, Discard, Pause, Resume}
use Rattle.queue_config.specs.declared.retry.Act.{Act}
use Rattle.queue_config.specs.declared.retry.Act.TheVariants as act
use Rattle.queue_config.specs.declared.retry.Decision.{Decision}
use Rattle.queue_config.specs.declared.limited.KeyFault.{KeyFault}
use Rattle.queue_config.specs.Limits.{limited_of}
use Rattle.queue_config.specs.Retry.{decision_of}
use Rattle.queue_model.specs.Map as finite
use Rattle.queue_model.specs.World.{World}
use Rattle.queue_model.specs.declared.Job.{Job}
use Rattle.plan_model.specs.Counts.{counts_after}
use Rattle.plan_model.specs.Drafts.{Draft, begin, push, holding, meets, end, enqueue, outcome_of, each_free}
use Rattle.plan_model.specs.Orders.{on_offer}
use Rattle.plan_model.specs.Planned.{Drafted, drafted, answering, planned}
use Rattle.plan_model.specs.Plans.{Plan}
use Rattle.plan_model.specs.Refusals.{unknown_class, key_refused, full, no_such_process, claim_limit, no_such_job, wrong_state, not_claimant, semaphore_closed, is_shut_out}
use Rattle.plan_model.specs.Scenes.{Scene}

-- ---- why a command is refused, in order

abbrev pub may_discard : Option Stage → Bool
may_discard before = not (is_claimed before || is_finished before)

-- of the jobs that are asked for in turn, from this place on
abbrev pub of_jobs : Scene → (index : ℕ) → List NewJob → List (Option Refused)
of_jobs s index [] = []
of_jobs s index (new ∷ news) = unknown_class s index new ∷ key_refused s index new ∷ of_jobs s (index + 1) news

-- of the claim of a job
abbrev pub of_claim : Scene → (pid id : ℕ) → List (Option Refused)
of_claim s pid id = no_such_job s id ∷ wrong_state s id is_claimed ∷ not_claimant s pid id ∷ []

abbrev pub refusals : Scene → Command → List (Option Refused)
refusals s (command.Enqueue new) = of_jobs s 0 (new ∷ []) ++ full s 1 ∷ []
refusals s (command.Bulk news) = of_jobs s 0 news ++ full s (length news) ∷ []
refusals s (command.Poll pid items limit) = no_such_process s pid ∷ claim_limit s pid limit ∷ []
refusals s (command.Done pid id) = of_claim s pid id
refusals s (command.Raised pid id error message) = of_claim s pid id
refusals s (command.Release pid id) = of_claim s pid id
refusals s (command.Retry id) = no_such_job s id ∷ wrong_state s id is_failed ∷ semaphore_closed s id ∷ []
refusals s (command.Discard id) = no_such_job s id ∷ wrong_state s id may_discard ∷ []
refusals s c = []

-- ---- new jobs

abbrev pub limit_or_none : Result (Option Limited) KeyFault → Option Limited
limit_or_none (Ok limited) = limited
limit_or_none (Err fault) = None

-- the row of a job that is asked for; its number is given last
abbrev pub new_row : Scene → NewJob → JobRow
new_row s new = record {
  id = 0;
  class = new.class;
  queue = new.queue;
  priority = new.priority;
  active_id = new.active_id;
  envelope = new.envelope;
  executions = new.executions;
  counts = new.counts;
  limited = limit_or_none (limited_of s.settings new.class new.args);
}

abbrev pub enqueue_new : Scene → NewJob → Draft → Draft × Made
enqueue_new s new d = enqueue s.moment (new_row s new) new.at d

abbrev pub and_made : List Made → Draft × Made → Draft × List Made
and_made before e = (e.0, before ++ e.1 ∷ [])

-- the jobs in turn
abbrev pub enqueue_all : Scene → List NewJob → Draft → Draft × List Made
enqueue_all s news d = fold (λ done new. and_made done.1 (enqueue_new s new done.0)) (d, []) news

-- ---- a poll

abbrev pub polled : Job → Polled
polled j = record { active_id = j.row.active_id; class = j.row.class; envelope = j.row.envelope; executions = j.row.executions; id = j.row.id; priority = j.row.priority; queue = j.row.queue }

abbrev pub claim_all : (moment pid : ℕ) → List Job → Draft → Draft
claim_all m pid jobs d = fold (λ d j. push m (Claim j.row.id pid) d) d jobs

-- these jobs are claimed and handed out; the process is held even where there are none
abbrev pub hand_out : Scene → (pid : ℕ) → List Job → Drafted
hand_out s pid jobs = drafted (claim_all s.moment pid jobs (holding (row.Process pid) Shared (begin s))) (answer.Polled (map polled jobs))

-- ---- a job that raised an error

-- the greatest place up to this one that isn't inside a character
abbrev pub cut_at : ℕ → List ℕ → ℕ
cut_at zero text = 0
cut_at (suc n) text = if nat_le 128 (slice_index_or text (suc n) 0) && nat_lt (slice_index_or text (suc n) 0) 192 then cut_at n text else suc n

-- the whole characters of the first 1024 bytes
abbrev pub message_of : List ℕ → List ℕ
message_of text = if nat_le (length text) 1024 then text else take (cut_at 1024 text) text

-- performed once more, and with these counts
abbrev pub performed : JobRow → (executions : ℕ) → Decision → Scene → JobRow
performed r executions decision s = record r { executions = executions; counts = counts_after s.settings r.class decision r.counts }

-- the job's row after the error, by what is decided of it
abbrev pub row_after : Scene → (error : List ℕ) → Job → JobRow
row_after s error j = performed j.row (min 65_535 (j.row.executions + 1)) (decision_of s.settings j.row.class error j.row.counts) s

abbrev pub failing : Scene → (error message : List ℕ) → Job → Transition
failing s error message j = Fail j.row.id error (message_of message) (Some (record { executions = (row_after s error j).executions; counts = (row_after s error j).counts }))

-- what the error leads to where this is decided
abbrev pub raise_by : Scene → (error message : List ℕ) → Job → Draft → Act → Drafted
raise_by s error message j d act.Fail = let failed = end s.moment j.row.id (failing s error message j) d in drafted failed.0 (answer.Raised j.row.id None outcome.Failed failed.1)
raise_by s error message j d act.Discard = let ended = end s.moment j.row.id (Done j.row.id) d in drafted ended.0 (answer.Raised j.row.id None outcome.Finished ended.1)
raise_by s error message j d (act.Retry wait) =
    let ended = end s.moment j.row.id (Done j.row.id) d in
    answering (enqueue s.moment (row_after s error j) (Some (later_moment s.moment wait)) ended.0) (λ copy. answer.Raised j.row.id copy.id outcome.Finished ended.1)

abbrev pub raise : Scene → (error message : List ℕ) → Job → Draft → Drafted
raise s error message j d = raise_by s error message j d (decision_of s.settings j.row.class error j.row.counts).act

-- ---- many jobs

abbrev pub is_wanted : Option (List ℕ) → List ℕ → Bool
is_wanted None name = true
is_wanted (Some wanted) name = bytes_eq wanted name

-- the jobs at the stage, of the queue and of the class, by number
abbrev pub matching : World → (Option Stage → Bool) → (queue class : Option (List ℕ)) → List Job
matching w passes queue class = filter (λ j. passes (Some (stage_of j.state)) && is_wanted queue j.row.queue && is_wanted class j.row.class) (finite.values w.jobs)

abbrev pub retry : (moment : ℕ) → Job → Draft → Draft
retry m j d = push m (Retry j.row.id (meets d m j.row.limited)) d

abbrev pub retry_case : (moment : ℕ) → Job → Draft → Option Draft
retry_case m j d = if is_shut_out d.world j.row.limited then None else Some (retry m j d)

abbrev pub discard_case : (moment : ℕ) → Job → Draft → Option Draft
discard_case m j d = Some (end m j.row.id (Discard j.row.id) d).0

abbrev pub is_at : Stage → Option Stage → Bool
is_at stage.Scheduled before = is_scheduled before
is_at stage.Ready before = is_ready before
is_at stage.Blocked before = is_blocked before
is_at stage.Claimed before = is_claimed before
is_at stage.Failed before = is_failed before
is_at stage.Finished before = is_finished before

abbrev pub counting : Draft × ℕ → Drafted
counting e = answering e (λ count. answer.Count count)

-- ---- what each command does

-- what is done with a job that is there
abbrev pub with_job : Scene → (id : ℕ) → (Job → Drafted) → Drafted
with_job s id f = by (finite.get s.book.world.jobs id)
  where
    by : Option Job → Drafted
    by None = drafted (begin s) answer.NotDue
    by (Some j) = f j

abbrev pub is_paused : Scene → (queue : List ℕ) → Bool
is_paused s queue = is_some (finite.get s.book.world.paused queue)

abbrev pub does : Scene → Command → Drafted
does s (command.Enqueue new) = answering (enqueue_new s new (begin s)) (λ made. answer.Enqueued made)
does s (command.Bulk news) = answering (enqueue_all s news (begin s)) (λ made. answer.Bulk made)
does s (command.Poll pid items limit) = hand_out s pid (take limit (on_offer s.book items))
does s (command.Done pid id) = answering (end s.moment id (Done id) (begin s)) (λ unblocked. answer.Done id unblocked)
does s (command.Raised pid id error message) = with_job s id (λ j. raise s error message j (begin s))
does s (command.Release pid id) = drafted (push s.moment (Release id) (begin s)) (answer.Released id)
does s (command.Retry id) = with_job s id (λ j. drafted (retry s.moment j (begin s)) (answer.Retried id (outcome_of (meets (begin s) s.moment j.row.limited))))
does s (command.RetryMany queue class) = counting (each_free s 500 (map (retry_case s.moment) (matching s.book.world is_failed queue class)))
does s (command.Discard id) = answering (end s.moment id (Discard id) (begin s)) (λ unblocked. answer.Discarded id unblocked)
does s (command.DiscardMany status queue class) = counting (each_free s 500 (map (discard_case s.moment) (matching s.book.world (is_at status) queue class)))
does s (command.Pause queue) = drafted (holding (row.Queue queue) Alone (if is_paused s queue then begin s else push s.moment (Pause queue) (begin s))) (answer.Paused true queue)
does s (command.Resume queue) = drafted (holding (row.Queue queue) Alone (if is_paused s queue then push s.moment (Resume queue) (begin s) else begin s)) (answer.Paused false queue)
does s c = drafted (begin s) answer.NotDue

-- the plan of a command about jobs and queues, or its first refusal
abbrev pub job_plan : Scene → Command → Result Plan Refused
job_plan s c = planned s (refusals s c) (does s c)
