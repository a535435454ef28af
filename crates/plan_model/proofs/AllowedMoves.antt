-- Transitions that are allowed where a draft stands, by what stands there.
use Rattle.std.proofs.Common.{◌≡◌, ◌≢◌, ◌<◌, ℕ, Bool, true, false, ◌&&◌, cond, nat_lt, List, Option, None, Some, is_some, ap, sym, ◌∙◌, refl, subst, arith}
use Rattle.std.proofs.lemmas.Bool.{true≢false}
use Rattle.job_states.specs.States.{stage_of, is_ready, is_blocked, is_claimed, is_failed, is_finished}
use Rattle.job_states.specs.declared.command.Kind.{Kind}
use Rattle.job_states.specs.declared.job.JobRow.{JobRow}
use Rattle.job_states.specs.declared.job.Limited.{Limited}
use Rattle.job_states.specs.declared.transition.Counters.{Counters}
use Rattle.job_states.specs.declared.transition.Put.{Put}
use Rattle.job_states.specs.declared.transition.Put.TheVariants.{Ready, Scheduled, Blocked, Away}
use Rattle.job_states.specs.declared.transition.Transition.{Transition}
use Rattle.job_states.specs.declared.transition.Transition.TheVariants.{Enqueue, Dispatch, Claim, Done, Fail, Release, Unblock, Retry, Discard, Clear, Register, Beat, Deregister, Pause, Resume, Expire}
use Rattle.semaphores.specs.Semaphore.{Semaphore, is_closed, is_expired}
use Rattle.queue_model.specs.Chain.{◌>>=◌}
use Rattle.queue_model.specs.Held.{held, holds, key_of}
use Rattle.queue_model.specs.Map as map
use Rattle.queue_model.specs.Named.{job_named}
use Rattle.queue_model.specs.Sights.{Sight, rows_at, sees, counted_at}
use Rattle.queue_model.specs.Transitions.{changes, is_due, is_discarded}
use Rattle.queue_model.specs.World.{World, holders, claims, is_key}
use Rattle.queue_model.specs.declared.Job.{Job}
use Rattle.queue_model.specs.declared.Numbers.{Numbers}
use Rattle.queue_model.proofs.Cases.{same_bytes}
use Rattle.plan_model.specs.Drafts.{Draft, generation_at, meets, place_for}
use Rattle.plan_model.specs.GoodDraft.{IsAllowed, IsFresh}
use Rattle.plan_model.specs.JobCommands.{may_discard}
use Rattle.plan_model.specs.Refusals.{is_shut_out}
use Rattle.plan_model.proofs.AllowedCases as cases
use Rattle.plan_model.proofs.AllowedCases.{meets_at, takes_open}
use Rattle.plan_model.proofs.LegalCases as legal
use Rattle.plan_model.proofs.LegalCases.{can_take}

-- ---- what a transition of a job sees

-- where its job is this one
abbrev pub sees_job : World → Option Job → Transition → Sight
sees_job w o t = record (sees w (held o t)) { rows = record (rows_at w (held o t)) { job = o } }

pub sees_named : (w : World) (t : Transition) (id : ℕ) (o : Option Job) → job_named t ≡ Some id → map.get w.jobs id ≡ o → sees w (holds w t) ≡ sees_job w o t
sees_named w t id o named found = ap (λ j. sees_job w j t) (ap (λ k. k >>= map.get w.jobs) named ∙ found)

by_job : (m : ℕ) (d : Draft) (t : Transition) (id : ℕ) (o : Option Job) → job_named t ≡ Some id → map.get d.world.jobs id ≡ o → is_some (changes m (sees_job d.world o t) t) ≡ true → IsAllowed m d t
by_job m d t id o named found h = record { legal = subst (λ s. is_some (changes m s t) ≡ true) (sym (sees_named d.world t id o named found)) h }

-- ---- jobs

module _ (m id : ℕ) (d : Draft) (j : Job) (found : map.get d.world.jobs id ≡ Some j) where
  pub claim : (pid : ℕ) → is_ready (Some (stage_of j.state)) ≡ true → is_some (map.get d.world.processes pid) ≡ true → claims d.world pid < 500 → IsAllowed m d (Claim id pid)
  claim pid ready there few = by_job m d (Claim id pid) id (Some j) refl found (legal.claim m (sees_job d.world (Some j) (Claim id pid)) id pid j refl ready there few)

  pub done : is_claimed (Some (stage_of j.state)) ≡ true → IsAllowed m d (Done id)
  done claimed = by_job m d (Done id) id (Some j) refl found (legal.done m (sees_job d.world (Some j) (Done id)) id j refl claimed)

  pub fail : (error message : List ℕ) (counters : Option Counters) → is_claimed (Some (stage_of j.state)) ≡ true → IsAllowed m d (Fail id error message counters)
  fail error message counters claimed =
      let t : Transition = Fail id error message counters in
      by_job m d t id (Some j) refl found (legal.fail m (sees_job d.world (Some j) t) id error message counters j refl claimed)

  pub release : is_claimed (Some (stage_of j.state)) ≡ true → IsAllowed m d (Release id)
  release claimed = by_job m d (Release id) id (Some j) refl found (legal.release m (sees_job d.world (Some j) (Release id)) id j refl claimed)

  pub discard : may_discard (Some (stage_of j.state)) ≡ true → IsAllowed m d (Discard id)
  discard may = by_job m d (Discard id) id (Some j) refl found (cases.discard m (sees_job d.world (Some j) (Discard id)) id j refl may)

  pub clear : is_finished (Some (stage_of j.state)) ≡ true → IsAllowed m d (Clear id)
  clear finished = by_job m d (Clear id) id (Some j) refl found (legal.clear m (sees_job d.world (Some j) (Clear id)) id j refl finished)

-- ---- processes, queues, keys

pub register : (m pid : ℕ) (kind : Kind) (name : List ℕ) (d : Draft) → IsFresh d.world d.given → pid ≡ d.given.pid → IsAllowed m d (Register pid kind name)
register m pid kind name d fresh new = record { legal = legal.register m (sees d.world (holds d.world (Register pid kind name))) pid kind name (fresh.processes pid (omega (arith, new))) }

pub beat : (m pid : ℕ) (d : Draft) → is_some (map.get d.world.processes pid) ≡ true → IsAllowed m d (Beat pid)
beat m pid d there = record { legal = legal.beat m (sees d.world (holds d.world (Beat pid))) pid there }

pub deregister : (m pid : ℕ) (d : Draft) → is_some (map.get d.world.processes pid) ≡ true → claims d.world pid ≡ 0 → IsAllowed m d (Deregister pid)
deregister m pid d there none = record { legal = legal.deregister m (sees d.world (holds d.world (Deregister pid))) pid there none }

pub pause : (m : ℕ) (queue : List ℕ) (d : Draft) → map.get d.world.paused queue ≡ None → IsAllowed m d (Pause queue)
pause m queue d none = record { legal = legal.pause m (sees d.world (holds d.world (Pause queue))) queue none }

pub resume : (m : ℕ) (queue : List ℕ) (d : Draft) → is_some (map.get d.world.paused queue) ≡ true → IsAllowed m d (Resume queue)
resume m queue d there = record { legal = legal.resume m (sees d.world (holds d.world (Resume queue))) queue there }

pub expire : (m : ℕ) (key : List ℕ) (d : Draft) (s : Semaphore) → map.get d.world.semaphores key ≡ Some s → is_expired s m ≡ true → IsAllowed m d (Expire key)
expire m key d s stands over = record { legal = cases.expire m (sees d.world (holds d.world (Expire key))) key s stands over }

-- ---- jobs that meet the semaphore of their key

-- of a fresh generation no job at the key holds a permit
none_at : (w : World) (given : Numbers) (o : Option (List ℕ)) → IsFresh w given → counted_at (λ key. holders w key given.generation) o ≡ 0
none_at w given None fresh = refl
none_at w given (Some key) fresh = fresh.permits key given.generation (omega arith)

meets_is : (m : ℕ) (d : Draft) (l : Option Limited) → meets_at l (key_of l >>= map.get d.world.semaphores) d.given.generation m ≡ meets d m l
meets_is m d None = refl
meets_is m d (Some limited) = refl

pub dispatch : (m id : ℕ) (d : Draft) (j : Job) (put : Put) → IsFresh d.world d.given → map.get d.world.jobs id ≡ Some j → is_due m j.state ≡ true → put ≡ meets d m j.row.limited → IsAllowed m d (Dispatch id put)
dispatch m id d j put fresh found due is =
    let t : Transition = Dispatch id put in
    by_job m d t id (Some j) refl found (cases.dispatch m (sees_job d.world (Some j) t) id d.given.generation j put refl due (none_at d.world d.given (key_of j.row.limited) fresh) (meets_is m d j.row.limited ∙ sym is))

pub retry : (m id : ℕ) (d : Draft) (j : Job) (put : Put) → IsFresh d.world d.given → map.get d.world.jobs id ≡ Some j → is_failed (Some (stage_of j.state)) ≡ true → is_shut_out d.world j.row.limited ≡ false → put ≡ meets d m j.row.limited → IsAllowed m d (Retry id put)
retry m id d j put fresh found failed here is =
    let t : Transition = Retry id put in
    by_job m d t id (Some j) refl found (cases.retry m (sees_job d.world (Some j) t) id d.given.generation j put refl failed (shut_out j.row.limited here) (none_at d.world d.given (key_of j.row.limited) fresh) (meets_is m d j.row.limited ∙ sym is))
  where
    shut_out : (l : Option Limited) → is_shut_out d.world l ≡ false → (is_discarded l && is_closed (key_of l >>= map.get d.world.semaphores)) ≡ false
    shut_out None e = refl
    shut_out (Some limited) e = e

-- of a key that a job is under, the limit
pub limit_at : (key : List ℕ) (o : Option Limited) → is_key key o ≡ true → (limited : Limited) × (o ≡ Some limited) × (limited.key ≡ key)
limit_at key None e = absurd (true≢false (sym e))
limit_at key (Some limited) e = (limited, refl, same_bytes limited.key key e)

-- at a key that isn't closed, and where no job holds a permit of the next generation, if that is taken
pub unblock_at : (m id : ℕ) (key : List ℕ) (d : Draft) (j : Job) → map.get d.world.jobs id ≡ Some j → is_blocked (Some (stage_of j.state)) ≡ true → is_key key j.row.limited ≡ true → is_closed (map.get d.world.semaphores key) ≡ false → (map.get d.world.semaphores key ≡ None → holders d.world key d.given.generation ≡ 0) → IsAllowed m d (Unblock id (generation_at d key))
unblock_at m id key d j found blocked keyed some none =
    let t : Transition = Unblock id (generation_at d key) in
    let l = limit_at key j.row.limited keyed in
    let at : key_of j.row.limited ≡ Some key = ap key_of l.1 ∙ ap Some l.2 in
    by_job m d t id (Some j) refl found (legal.unblock m (sees_job d.world (Some j) t) id (generation_at d key) j l.0 refl blocked l.1
    (subst (λ k. can_take (k >>= map.get d.world.semaphores) (generation_at d key) (counted_at (λ k. holders d.world k (generation_at d key)) k) ≡ true) (sym at)
    (takes_open (map.get d.world.semaphores key) d.given.generation (holders d.world key) some none)))

pub unblock : (m id : ℕ) (key : List ℕ) (d : Draft) (j : Job) (generation : ℕ) → IsFresh d.world d.given → map.get d.world.jobs id ≡ Some j → is_blocked (Some (stage_of j.state)) ≡ true → is_key key j.row.limited ≡ true → is_closed (map.get d.world.semaphores key) ≡ false → generation ≡ generation_at d key → IsAllowed m d (Unblock id generation)
unblock m id key d j generation fresh found blocked keyed some is =
    subst (λ g. IsAllowed m d (Unblock id g)) (sym is) (unblock_at m id key d j found blocked keyed some (λ e. fresh.permits key d.given.generation (omega arith)))

-- ---- new jobs

-- who meets a semaphore isn't scheduled
met : (m : ℕ) (d : Draft) (l : Option Limited) (at : ℕ) → meets d m l ≢ Scheduled at
met m d l at e = grind arith

placed : (m : ℕ) (d : Draft) (l : Option Limited) (at : Option ℕ) (put : Put) → ((t : ℕ) → put ≢ Scheduled t) → place_for d m at l ≡ put → meets d m l ≡ put
placed m d l None put now e = e
placed m d l (Some at) put now e = by (nat_lt m at) e
  where
    by : (later : Bool) → cond later (Scheduled at) (meets d m l) ≡ put → meets d m l ≡ put
    by true e = absurd (now at (sym e))
    by false e = e

later : (m : ℕ) (d : Draft) (l : Option Limited) (at : Option ℕ) (t : ℕ) → place_for d m at l ≡ Scheduled t → nat_lt m t ≡ true
later m d l None t e = absurd (met m d l t e)
later m d l (Some at) t e = by (nat_lt m at) refl e
  where
    by : (b : Bool) → nat_lt m at ≡ b → cond b (Scheduled at) (meets d m l) ≡ Scheduled t → nat_lt m t ≡ true
    by true after e = cc
    by false after e = absurd (met m d l t e)

pub enqueue : (m : ℕ) (d : Draft) (row : JobRow) (at : Option ℕ) (put : Put) → IsFresh d.world d.given → row.id ≡ d.given.job → put ≡ place_for d m at row.limited → put ≢ Away → IsAllowed m d (Enqueue row put)
enqueue m d row at put fresh new is here = by put is here
  where
    none : map.get d.world.jobs row.id ≡ None
    none = fresh.jobs row.id (omega (arith, new))

    met_there : (put : Put) → ((t : ℕ) → put ≢ Scheduled t) → put ≡ place_for d m at row.limited → meets_at row.limited (key_of row.limited >>= map.get d.world.semaphores) d.given.generation m ≡ put
    met_there put now is = meets_is m d row.limited ∙ placed m d row.limited at put now (sym is)

    by : (put : Put) → put ≡ place_for d m at row.limited → put ≢ Away → IsAllowed m d (Enqueue row put)
    by (Ready permit) is here = by_job m d (Enqueue row (Ready permit)) row.id None refl none
        (cases.enqueue m (sees_job d.world None (Enqueue row (Ready permit))) d.given.generation row (Ready permit) refl (none_at d.world d.given (key_of row.limited) fresh) (met_there (Ready permit) (λ t f. cc) is) here)
    by (Scheduled t) is here = by_job m d (Enqueue row (Scheduled t)) row.id None refl none
        (legal.enqueue_later m (sees_job d.world None (Enqueue row (Scheduled t))) row t refl (later m d row.limited at t (sym is)))
    by (Blocked until) is here = by_job m d (Enqueue row (Blocked until)) row.id None refl none
        (cases.enqueue m (sees_job d.world None (Enqueue row (Blocked until))) d.given.generation row (Blocked until) refl (none_at d.world d.given (key_of row.limited) fresh) (met_there (Blocked until) (λ t f. cc) is) here)
    by Away is here = absurd (here refl)
