-- How many transitions the plan of each command has.
use Rattle.std.proofs.Common.{◌≡◌, ◌≤◌, ◌+◌, ℕ, Bool, true, false, cond, nat_lt, List, [], ◌∷◌, length, take, map, filter, fold, Option, None, Some, Ok, refl, subst, arith}
use Rattle.std.proofs.lemmas.List.{length-append}
use Rattle.std.proofs.lemmas.List.Sums.{length-filter}
use Rattle.std.specs.Prelude.{codes}
use Rattle.job_states.specs.Moment.{later_moment}
use Rattle.job_states.specs.States.{is_failed}
use Rattle.job_states.specs.declared.answer.Answer.TheVariants as answer
use Rattle.job_states.specs.declared.answer.Made.{Made}
use Rattle.job_states.specs.declared.answer.Refused.{Refused}
use Rattle.job_states.specs.declared.command.Command.{Command}
use Rattle.job_states.specs.declared.command.Command.TheVariants as command
use Rattle.job_states.specs.declared.command.NewJob.{NewJob}
use Rattle.job_states.specs.declared.job.JobRow.{JobRow}
use Rattle.job_states.specs.declared.row.Mode.TheVariants.{Shared}
use Rattle.job_states.specs.declared.row.Row.TheVariants as row
use Rattle.job_states.specs.declared.transition.Put.{Put}
use Rattle.job_states.specs.declared.transition.Put.TheVariants.{Ready, Scheduled, Blocked, Away}
use Rattle.job_states.specs.declared.transition.Transition.{Transition}
use Rattle.job_states.specs.declared.transition.Transition.TheVariants.{Enqueue, Dispatch, Claim, Done, Fail, Release, Unblock, Retry, Discard, Clear, Register, Beat, Deregister, Pause, Resume, Expire}
use Rattle.semaphores.specs.Semaphore.{is_closed}
use Rattle.queue_config.specs.Retry.{decision_of}
use Rattle.queue_config.specs.declared.retry.Act.{Act}
use Rattle.queue_config.specs.declared.retry.Act.TheVariants as act
use Rattle.queue_model.specs.Map as finite
use Rattle.queue_model.specs.World.{is_claimed_by}
use Rattle.queue_model.specs.declared.Job.{Job}
use Rattle.queue_model.specs.declared.Process.{Process}
use Rattle.row_locks.proofs.Membership.{Contains-from_map, Contains-from_filter}
use Rattle.plan_model.specs.Drafts.{Draft, begin, push, holding, end, enqueue, enqueue_at, place_for, meets, generation_at, outcome_of, and_case, each_free}
use Rattle.plan_model.specs.GoodScene.{IsGoodScene, IsWithinRanges}
use Rattle.plan_model.specs.JobCommands as jobs
use Rattle.plan_model.specs.JobCommands.{job_plan, enqueue_new, and_made, failing, raise, raise_by, row_after, with_job}
use Rattle.plan_model.specs.Orders.{on_offer, first_of}
use Rattle.plan_model.specs.Planned.{Drafted, drafted, planned}
use Rattle.plan_model.specs.Plans.{Plan}
use Rattle.plan_model.specs.Refusals.{is_shut_out}
use Rattle.plan_model.specs.Scenes.{Scene, are_free}
use Rattle.plan_model.specs.UpkeepCommands as upkeep
use Rattle.plan_model.specs.UpkeepCommands.{upkeep_plan, claimed_by, release_all, fail_all, pruned_message, prune, is_silent, or_nothing}
use Rattle.plan_model.proofs.AllowedAfter.{after_end}
use Rattle.plan_model.proofs.EachFree.{picked}
use Rattle.plan_model.proofs.OrderLemmas.{first_is}
use Rattle.plan_model.proofs.PlanLemmas.{accepted}
use Rattle.plan_model.proofs.Polls.{taken}
use Rattle.plan_model.proofs.Raising.{job_then}

abbrev size : Draft → ℕ
size d = length d.steps

-- ---- one job

pushed : (m : ℕ) (t : Transition) (d : Draft) → size (push m t d) ≡ size d + 1
pushed m t d = length-append d.steps (t ∷ [])

end_size : (m id : ℕ) (t : Transition) (d : Draft) → size (end m id t d).0 ≤ size d + 2
end_size m id t d =
    let first = pushed m t d in
    after_end (λ e. size e ≤ size d + 2) m id t d (omega (arith, first)) (λ key j given e.
    let second = pushed m (Unblock j.row.id (generation_at (push m t d) key)) (push m t d) in
    omega (arith, first, second))

at_size : (m : ℕ) (row : JobRow) (put : Put) (d : Draft) → size (enqueue_at m row put d).0 ≤ size d + 1
at_size m row Away d = omega arith
at_size m row (Ready permit) d = let one = pushed m (Enqueue (record row { id = d.given.job }) (Ready permit)) d in omega (arith, one)
at_size m row (Scheduled at) d = let one = pushed m (Enqueue (record row { id = d.given.job }) (Scheduled at)) d in omega (arith, one)
at_size m row (Blocked until) d = let one = pushed m (Enqueue (record row { id = d.given.job }) (Blocked until)) d in omega (arith, one)

enqueue_size : (m : ℕ) (row : JobRow) (at : Option ℕ) (d : Draft) → size (enqueue m row at d).0 ≤ size d + 1
enqueue_size m row at d = at_size m row (place_for d m at row.limited) d

-- ---- many jobs, of which each has at most two

all_size : {A : Type 0} (step : A → Draft → Draft) → ((x : A) (d : Draft) → size (step x d) ≤ size d + 2) → (xs : List A) (d : Draft) → size (fold (λ d x. step x d) d xs) ≤ size d + (length xs + length xs)
all_size step adds [] d = omega arith
all_size step adds (x ∷ xs) d =
    let first = adds x d in
    let rest = all_size step adds xs (step x d) in
    omega (arith, first, rest)

-- a draft, where there is one, has no more
abbrev AtMost : ℕ → Option Draft → Type 0
AtMost n None = Unit {0}
AtMost n (Some d) = size d ≤ n

-- so many cases were done
record Counts (most : ℕ) (e : Draft × ℕ) : Type 0 where
  size_is : size e.0 ≤ e.1 + e.1
  few : e.1 ≤ most

below : (n most : ℕ) → nat_lt n most ≡ true → n + 1 ≤ most
below n most e = grind (arith, e)

module _ {A : Type 0} (s : Scene) (most : ℕ) (case : A → Draft → Option Draft) (adds : (x : A) (d : Draft) → AtMost (size d + 2) (case x d)) where
  one_case : (x : A) (e : Draft × ℕ) → Counts most e → Counts most (and_case s most e (case x))
  one_case x e h = by (case x e.0) (adds x e.0)
    where
      done : (d : Draft) → size d ≤ size e.0 + 2 → (b : Bool) → nat_lt e.1 most ≡ b → Counts most (cond b (cond (are_free s.book d.rows) (d, e.1 + 1) e) e)
      done d more false room = h
      done d more true room =
          let was = h.size_is in
          picked (Counts most) (are_free s.book d.rows) (d, e.1 + 1) e (record { size_is = omega (arith, more, was); few = below e.1 most room }) h

      by : (o : Option Draft) → AtMost (size e.0 + 2) o → Counts most (and_case s most e (λ d. o))
      by None more = picked (Counts most) (nat_lt e.1 most) e e h h
      by (Some d) more = done d more (nat_lt e.1 most) refl

  all_cases : (xs : List A) (e : Draft × ℕ) → Counts most e → Counts most (fold (and_case s most) e (map case xs))
  all_cases [] e h = h
  all_cases (x ∷ xs) e h = all_cases xs (and_case s most e (case x)) (one_case x e h)

  many_size : (xs : List A) → most ≤ 500 → size (each_free s most (map case xs)).0 ≤ 2000
  many_size xs le =
      let all : Counts most (each_free s most (map case xs)) = all_cases xs (begin s, 0) (record { size_is = omega arith; few = omega arith }) in
      let total = all.size_is in
      let few = all.few in
      omega (arith, total, few, le)

one_more : (m : ℕ) (t : Transition) (d : Draft) → size (push m t d) ≤ size d + 2
one_more m t d = let one = pushed m t d in omega (arith, one)

unless : (b : Bool) (n : ℕ) (d : Draft) → size d ≤ n → AtMost n (cond b None (Some d))
unless b n d h = picked (AtMost n) b None (Some d) tt h

-- ---- the commands

bulk_size : (s : Scene) (news : List NewJob) (e : Draft × List Made) → size (fold (λ done new. and_made done.1 (enqueue_new s new done.0)) e news).0 ≤ size e.0 + length news
bulk_size s [] e = omega arith
bulk_size s (new ∷ news) e =
    let first : size (enqueue_new s new e.0).0 ≤ size e.0 + 1 = enqueue_size s.moment (jobs.new_row s new) new.at e.0 in
    let rest = bulk_size s news (and_made e.1 (enqueue_new s new e.0)) in
    omega (arith, first, rest)

module _ (s : Scene) (error message : List ℕ) (j : Job) where
  acted : (a : Act) → size (raise_by s error message j (begin s) a).draft ≤ 2000
  acted act.Fail =
      let two = end_size s.moment j.row.id (failing s error message j) (begin s) in
      omega (arith, two)
  acted act.Discard = let two = end_size s.moment j.row.id (Done j.row.id) (begin s) in omega (arith, two)
  acted (act.Retry wait) =
      let two = end_size s.moment j.row.id (Done j.row.id) (begin s) in
      let one = enqueue_size s.moment (row_after s error j) (Some (later_moment s.moment wait)) (end s.moment j.row.id (Done j.row.id) (begin s)).0 in
      omega (arith, two, one)

  raise_size : size (raise s error message j (begin s)).draft ≤ 2000
  raise_size = acted (decision_of s.settings j.row.class error j.row.counts).act

with_job_size : (s : Scene) (id : ℕ) (f : Job → Drafted) → ((j : Job) → size (f j).draft ≤ 2000) → size (with_job s id f).draft ≤ 2000
with_job_size s id f each = by (finite.get s.book.world.jobs id)
  where
    by : (o : Option Job) → size (job_then s f o).draft ≤ 2000
    by None = omega arith
    by (Some j) = each j

module _ (s : Scene) where
  one_step : (t : Transition) → size (push s.moment t (begin s)) ≤ 2000
  one_step t = let one = pushed s.moment t (begin s) in omega (arith, one)

  one_end : (id : ℕ) (t : Transition) → size (end s.moment id t (begin s)).0 ≤ 2000
  one_end id t = let two = end_size s.moment id t (begin s) in omega (arith, two)

  job_size : (c : Command) → IsWithinRanges s c → size (jobs.does s c).draft ≤ 2000
  job_size (command.Enqueue new) fits = let one = enqueue_size s.moment (jobs.new_row s new) new.at (begin s) in omega (arith, one)
  job_size (command.Bulk news) fits = let all = bulk_size s news (begin s, []) in let few = fits.1 in omega (arith, all, few)
  job_size (command.Poll pid items limit) fits =
      let all = all_size (λ j d. push s.moment (Claim j.row.id pid) d) (λ j d. one_more s.moment (Claim j.row.id pid) d) (take limit (on_offer s.book items)) (holding (row.Process pid) Shared (begin s)) in
      let few = taken limit (on_offer s.book items) in
      let within = fits.1 in
      omega (arith, all, few, within)
  job_size (command.Done pid id) fits = one_end id (Done id)
  job_size (command.Raised pid id error message) fits = with_job_size s id (λ j. raise s error message j (begin s)) (raise_size s error message)
  job_size (command.Release pid id) fits = one_step (Release id)
  job_size (command.Retry id) fits = with_job_size s id (λ j. drafted (jobs.retry s.moment j (begin s)) (answer.Retried id (outcome_of (meets (begin s) s.moment j.row.limited))))
      (λ j. one_step (Retry j.row.id (meets (begin s) s.moment j.row.limited)))
  job_size (command.RetryMany queue class) fits = many_size s 500 (jobs.retry_case s.moment)
      (λ j d. unless (is_shut_out d.world j.row.limited) (size d + 2) (jobs.retry s.moment j d) (one_more s.moment (Retry j.row.id (meets d s.moment j.row.limited)) d))
      (jobs.matching s.book.world is_failed queue class) (omega arith)
  job_size (command.Discard id) fits = one_end id (Discard id)
  job_size (command.DiscardMany status queue class) fits = many_size s 500 (jobs.discard_case s.moment) (λ j d. end_size s.moment j.row.id (Discard j.row.id) d) (jobs.matching s.book.world (jobs.is_at status) queue class) (omega arith)
  job_size (command.Pause queue) fits = picked (λ d. size d ≤ 2000) (jobs.is_paused s queue) (begin s) (push s.moment (Pause queue) (begin s)) (omega arith) (one_step (Pause queue))
  job_size (command.Resume queue) fits = picked (λ d. size d ≤ 2000) (jobs.is_paused s queue) (push s.moment (Resume queue) (begin s)) (begin s) (one_step (Resume queue)) (omega arith)
  job_size c fits = omega arith

  of_plan : (causes : List (Option Refused)) (made : Drafted) (plan : Plan) → planned s causes made ≡ Ok plan → size made.draft ≤ 2000 → length plan.tx.steps ≤ 2000
  of_plan causes made plan e le = subst (λ p. length p.tx.steps ≤ 2000) (accepted s causes made plan e).1 le

  pub job_short : (c : Command) (plan : Plan) → IsWithinRanges s c → job_plan s c ≡ Ok plan → length plan.tx.steps ≤ 2000
  job_short c plan fits e = of_plan (jobs.refusals s c) (jobs.does s c) plan e (job_size c fits)

module _ (s : Scene) (good : IsGoodScene s) where
  few_claimed : (pid : ℕ) → length (claimed_by s.book.world pid) ≤ 500
  few_claimed pid =
      let same = length-filter (is_claimed_by pid) (finite.values s.book.world.jobs) in
      let few = good.book.world.few_claims pid in
      omega (arith, same, few)

  prune_size : (pid : ℕ) (p : Process) → size (prune s pid p).draft ≤ 2000
  prune_size pid p =
      let failed : Draft = fail_all s.moment (pruned_message p) (claimed_by s.book.world pid) (begin s) in
      let all = all_size (λ j d. (end s.moment j.row.id (Fail j.row.id (codes "ProcessPrunedError") (pruned_message p) None) d).0) (λ j d. end_size s.moment j.row.id (Fail j.row.id (codes "ProcessPrunedError") (pruned_message p) None) d) (claimed_by s.book.world pid) (begin s) in
      let few = few_claimed pid in
      let last = pushed s.moment (Deregister pid) failed in
      omega (arith, all, few, last)

  first_size : size (upkeep.prune_first s).draft ≤ 2000
  first_size = by (first_of free) refl
    where
      made : List Drafted
      made = map (λ e. prune s e.0 e.1) (filter (λ e. is_silent s e.1) s.book.world.processes.entries)

      free : List Drafted
      free = filter (λ m. are_free s.book m.draft.rows) made

      by : (o : Option Drafted) → first_of free ≡ o → size (or_nothing s o).draft ≤ 2000
      by None is = omega arith
      by (Some m) is =
          let from = Contains-from_map (λ (e : ℕ × Process). prune s e.0 e.1) (filter (λ (e : ℕ × Process). is_silent s e.1) s.book.world.processes.entries) m (Contains-from_filter (λ (m : Drafted). are_free s.book m.draft.rows) made m (first_is free m is)) in
          subst (λ m. size m.draft ≤ 2000) from.2 (prune_size from.0.0 from.0.1)

  upkeep_size : (c : Command) → size (upkeep.does s c).draft ≤ 2000
  upkeep_size (command.Register kind name) = one_step s (Register s.book.given.pid kind name)
  upkeep_size (command.Beat pid) = one_step s (Beat pid)
  upkeep_size (command.Deregister pid) =
      let released : Draft = release_all s.moment (claimed_by s.book.world pid) (begin s) in
      let all = all_size (λ j d. push s.moment (Release j.row.id) d) (λ j d. one_more s.moment (Release j.row.id) d) (claimed_by s.book.world pid) (begin s) in
      let few = few_claimed pid in
      let last = pushed s.moment (Deregister pid) released in
      omega (arith, all, few, last)
  upkeep_size command.Dispatch = many_size s s.settings.dispatcher.batch_size (upkeep.dispatch_case s.moment) (λ j d. one_more s.moment (Dispatch j.row.id (meets d s.moment j.row.limited)) d) (upkeep.due_jobs s.book.world s.moment) good.settings.ranges.dispatcher.batch_size.1
  upkeep_size command.Expire = many_size s 500 (upkeep.expire_case s.moment) (λ key d. one_more s.moment (Expire key) d) (upkeep.expired_keys s.book.world s.moment) (omega arith)
  upkeep_size command.Unblock = many_size s 500 (upkeep.unblock_case s.moment)
      (λ e d. let t : Transition = Unblock e.1.row.id (generation_at d e.0) in unless (is_closed (finite.get d.world.semaphores e.0)) (size d + 2) (push s.moment t d) (one_more s.moment t d))
      (upkeep.overdue s.book.world s.moment) (omega arith)
  upkeep_size command.Prune = first_size
  upkeep_size command.ClearFinished = many_size s 500 (upkeep.clear_case s.moment) (λ j d. one_more s.moment (Clear j.row.id) d) (filter (upkeep.is_over s) (finite.values s.book.world.jobs)) (omega arith)
  upkeep_size c = omega arith

  pub upkeep_short : (c : Command) (plan : Plan) → upkeep_plan s c ≡ Ok plan → length plan.tx.steps ≤ 2000
  upkeep_short c plan e = of_plan s (upkeep.refusals s c) (upkeep.does s c) plan e (upkeep_size c)
