-- The numbers that a draft's transition names are within their ranges, unless they are spent.
use Rattle.std.proofs.Common.{◌≡◌, ◌≤◌, ◌<◌, ◌+◌, ◌^◌, max, ℕ, Bool, true, false, cond, not, nat_lt, List, Option, None, Some, refl, subst, arith}
use Rattle.std.proofs.lemmas.Bool.{true≢false}
use Rattle.std.specs.Option.{ForSome}
use Rattle.std.specs.Prelude.{◌==◌, ◌&&◌}
use Rattle.job_states.specs.Moment.{IsMoment, is_moment, later_moment}
use Rattle.job_states.specs.Ranges.{is_number, is_put, is_scheduled, is_away}
use Rattle.job_states.specs.declared.job.Limited.{Limited}
use Rattle.job_states.specs.declared.transition.Put.TheVariants.{Ready, Scheduled, Blocked, Away}
use Rattle.job_states.specs.declared.transition.Transition.{Transition}
use Rattle.semaphores.specs.Semaphore.{Semaphore, is_closed}
use Rattle.queue_model.specs.Map as map
use Rattle.queue_model.specs.Named.{job_named, pid_named, generation_named, put_named, noted, above}
use Rattle.queue_model.specs.World.{World}
use Rattle.plan_model.specs.Drafts.{Draft, meets, meets_key, place_for, generation_at, generation_of}
use Rattle.plan_model.specs.Refusals.{is_shut_out}
use Rattle.plan_model.proofs.GoodDrafts.{IsGoodDraft}
use Rattle.plan_model.proofs.PlanLemmas.{moment_is}
use Rattle.plan_model.proofs.Spending.{IsNotSpent}

next_is : (next given : ℕ) → 1 ≤ next → next ≤ given → (given < max given (given + 1) → max given (given + 1) ≤ 2 ^ 63 + 1) → is_number given ≡ true
next_is next given one le h = let rise : given < max given (given + 1) = omega arith in let bound = h rise in number_is given (omega (arith, one, le)) (omega (arith, bound))
  where
    number_is : (n : ℕ) → 1 ≤ n → n ≤ 2 ^ 63 → is_number n ≡ true
    number_is n a b = grind (arith, a, b)

later_fits : (m d : ℕ) → is_moment (later_moment m d) ≡ true
later_fits m d = grind arith

module _ (w0 : World) (m : ℕ) (d : Draft) (h : IsGoodDraft w0 m d) (t : Transition) (unspent : IsNotSpent d.given (noted d.given m t)) where
  pub job_fits : job_named t ≡ Some d.given.job → is_number d.given.job ≡ true
  job_fits named = next_is d.world.numbers.job d.given.job h.good.next_job.0 h.above.job
      (subst (λ o. d.given.job < above d.given.job o → above d.given.job o ≤ 2 ^ 63 + 1) named unspent.job)

  pub pid_fits : pid_named t ≡ Some d.given.pid → is_number d.given.pid ≡ true
  pid_fits named = next_is d.world.numbers.pid d.given.pid h.good.next_pid.0 h.above.pid
      (subst (λ o. d.given.pid < above d.given.pid o → above d.given.pid o ≤ 2 ^ 63 + 1) named unspent.pid)

  generation_fits : generation_named t ≡ Some d.given.generation → is_number d.given.generation ≡ true
  generation_fits named = next_is d.world.numbers.generation d.given.generation h.good.next_generation.0 h.above.generation
      (subst (λ o. d.given.generation < above d.given.generation o → above d.given.generation o ≤ 2 ^ 63 + 1) named unspent.generation)

  -- that of a standing semaphore, or the next one
  pub generation_at_fits : (key : List ℕ) → generation_named t ≡ Some (generation_at d key) → is_number (generation_at d key) ≡ true
  generation_at_fits key = by (map.get d.world.semaphores key) refl
    where
      by : (o : Option Semaphore) → map.get d.world.semaphores key ≡ o → generation_named t ≡ Some (generation_of d.given.generation o) → is_number (generation_of d.given.generation o) ≡ true
      by None e named = generation_fits named
      by (Some s) e named = (h.good.semaphores key s e).generation.0

  -- the place of a job that meets the semaphore of its key
  pub meets_fits : (l : Option Limited) → generation_named t ≡ put_named (meets d m l) → is_put (meets d m l) ≡ true
  meets_fits None named = refl
  meets_fits (Some limited) named = by (map.get d.world.semaphores limited.key) refl named
    where
      at_semaphore : (s : Semaphore) → is_number s.generation ≡ true → (free discard : Bool) → is_put (cond free (Ready (Some s.generation)) (cond discard Away (Blocked (later_moment m limited.duration)))) ≡ true
      at_semaphore s number true discard = number
      at_semaphore s number false true = refl
      at_semaphore s number false false = later_fits m limited.duration

      by : (o : Option Semaphore) → map.get d.world.semaphores limited.key ≡ o → generation_named t ≡ put_named (meets_key o d.given.generation m limited) → is_put (meets_key o d.given.generation m limited) ≡ true
      by None e named = generation_fits named
      by (Some s) e named = at_semaphore s (h.good.semaphores limited.key s e).generation.0 (not (s.free == 0)) limited.discard

  pub place_fits : (at : Option ℕ) → ForSome at IsMoment → (l : Option Limited) → generation_named t ≡ put_named (place_for d m at l) → is_put (place_for d m at l) ≡ true
  place_fits None is l named = meets_fits l named
  place_fits (Some at) is l named = by (nat_lt m at) named
    where
      by : (later : Bool) → generation_named t ≡ put_named (cond later (Scheduled at) (meets d m l)) → is_put (cond later (Scheduled at) (meets d m l)) ≡ true
      by true named = moment_is at (is at refl)
      by false named = meets_fits l named

-- ---- who meets a semaphore

at_key : (o : Option Semaphore) (fresh m : ℕ) (limited : Limited) → is_scheduled (meets_key o fresh m limited) ≡ false
at_key None fresh m limited = refl
at_key (Some s) fresh m limited = by (not (s.free == 0)) limited.discard
  where
    by : (free discard : Bool) → is_scheduled (cond free (Ready (Some s.generation)) (cond discard Away (Blocked (later_moment m limited.duration)))) ≡ false
    by true discard = refl
    by false true = refl
    by false false = refl

-- isn't scheduled
pub meets_now : (d : Draft) (m : ℕ) (l : Option Limited) → is_scheduled (meets d m l) ≡ false
meets_now d m None = refl
meets_now d m (Some limited) = at_key (map.get d.world.semaphores limited.key) d.given.generation m limited

-- and goes away only where it is shut out
pub meets_here : (d : Draft) (m : ℕ) (l : Option Limited) → is_shut_out d.world l ≡ false → is_away (meets d m l) ≡ false
meets_here d m None here = refl
meets_here d m (Some limited) here = by (map.get d.world.semaphores limited.key) here
  where
    at_semaphore : (s : Semaphore) (full discard : Bool) → (discard && full) ≡ false → is_away (cond (not full) (Ready (Some s.generation)) (cond discard Away (Blocked (later_moment m limited.duration)))) ≡ false
    at_semaphore s false discard e = refl
    at_semaphore s true false e = refl
    at_semaphore s true true e = absurd (true≢false e)

    by : (o : Option Semaphore) → (limited.discard && is_closed o) ≡ false → is_away (meets_key o d.given.generation m limited) ≡ false
    by None e = refl
    by (Some s) e = at_semaphore s (s.free == 0) limited.discard e
