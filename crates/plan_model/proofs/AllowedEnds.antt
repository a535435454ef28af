-- The first blocked job of a key is let go by the end that gives a permit of the key back.
use Rattle.std.proofs.Common.{◌≡◌, ℕ, true, false, List, Option, None, Some, is_some, ap, sym, ◌∙◌, refl, subst, arith}
use Rattle.std.proofs.lemmas.Bool.{true≢false, and_from}
use Rattle.job_states.specs.Moment.{IsMoment, is_moment}
use Rattle.job_states.specs.Ranges.{is_in_range, is_number}
use Rattle.job_states.specs.States.{permit_of}
use Rattle.job_states.specs.declared.job.Limited.{Limited}
use Rattle.job_states.specs.declared.transition.Transition.{Transition}
use Rattle.job_states.specs.declared.transition.Transition.TheVariants.{Unblock}
use Rattle.semaphores.specs.Semaphore.{Semaphore, is_closed, is_of_generation}
use Rattle.queue_model.specs.Chain.{◌>>=◌}
use Rattle.queue_model.specs.GoodWorld.{IsGood}
use Rattle.queue_model.specs.Held.{held, holds, key_of}
use Rattle.queue_model.specs.Map as map
use Rattle.queue_model.specs.Named.{job_named}
use Rattle.queue_model.specs.Sights.{Sight, sees}
use Rattle.queue_model.specs.Transitions.{changes}
use Rattle.queue_model.specs.World.{World}
use Rattle.queue_model.specs.declared.Job.{Job}
use Rattle.queue_model.proofs.Good.{step_good}
use Rattle.queue_model.proofs.Steps.{then, passed, same_Some}
use Rattle.plan_model.specs.Drafts.{Draft, push, end, key_given, generation_at, generation_of}
use Rattle.plan_model.specs.GoodDraft.{IsAllowed, is_end}
use Rattle.plan_model.specs.Orders.{first_blocked}
use Rattle.plan_model.proofs.AllowedAfter.{let_go, after_end}
use Rattle.plan_model.proofs.AllowedCases.{is_open, key_ended, gave}
use Rattle.plan_model.proofs.AllowedMoves.{sees_job, sees_named, unblock_at}
use Rattle.plan_model.proofs.AllowedSeen.{legal_step, rows_of, some_there, semaphore_here}
use Rattle.plan_model.proofs.OrderLemmas.{first_is_blocked}

-- ---- good worlds

moment_is : (m : ℕ) → IsMoment m → is_moment m ≡ true
moment_is m h = grind (arith, h)

pub stays_good : (m : ℕ) (t : Transition) (d : Draft) → IsGood d.world → IsMoment m → is_in_range t ≡ true → IsAllowed m d t → IsGood (push m t d).world
stays_good m t d good moment range h = step_good d.world (push m t d).world m t good (moment_is m moment) (legal_step m t d range h)

-- an end of a job that is there is within its ranges
end_in_range : (t : Transition) (id : ℕ) → is_end t ≡ true → job_named t ≡ Some id → is_number id ≡ true → is_in_range t ≡ true
end_in_range t id end named number = grind arith

-- an end that is allowed has its job
has_job : (m : ℕ) (t : Transition) (d : Draft) (id : ℕ) → is_end t ≡ true → job_named t ≡ Some id → IsAllowed m d t → is_some (map.get d.world.jobs id) ≡ true
has_job m t d id end named h = by (map.get d.world.jobs id) refl
  where
    gone : (m : ℕ) (s : Sight) (t : Transition) → is_end t ≡ true → s.rows.job ≡ None → is_some (changes m s t) ≡ false
    gone m s t end none = grind arith

    by : (o : Option Job) → map.get d.world.jobs id ≡ o → is_some o ≡ true
    by None e = absurd (true≢false (sym h.legal ∙ gone m (sees d.world (holds d.world t)) t end (ap (λ k. k >>= map.get d.world.jobs) named ∙ e)))
    by (Some j) e = refl

pub ended_good : (m : ℕ) (t : Transition) (d : Draft) (id : ℕ) → IsGood d.world → IsMoment m → is_end t ≡ true → job_named t ≡ Some id → IsAllowed m d t → IsGood (push m t d).world
ended_good m t d id good moment end named h =
    let j = some_there (map.get d.world.jobs id) (has_job m t d id end named h) in
    stays_good m t d good moment (end_in_range t id end named (good.jobs id j.0 j.1).number.0) h

-- ---- the permit of a job, and the semaphore that it came from

pub record GivesBack (w : World) (id : ℕ) (key : List ℕ) : Type 0 where
  pub job : Job
  pub found : map.get w.jobs id ≡ Some job
  pub limited : Limited
  pub keyed : job.row.limited ≡ Some limited
  pub own_key : limited.key ≡ key
  pub generation : ℕ
  pub permit : permit_of job.state ≡ Some generation
  pub semaphore : Semaphore
  pub stands : map.get w.semaphores key ≡ Some semaphore
  pub same : semaphore.generation ≡ generation

of_generation : (o : Option Semaphore) (generation : ℕ) → is_of_generation o generation ≡ true → (s : Semaphore) × (o ≡ Some s) × (s.generation ≡ generation)
of_generation None generation e = absurd (true≢false (sym e))
of_generation (Some s) generation e = (s, refl, grind (arith, e))

pub gives_back : (w : World) (id : ℕ) (key : List ℕ) → key_given w id ≡ Some key → GivesBack w id key
gives_back w id key e =
    let a = then (map.get w.jobs id) _ key e in
    let b = then a.0.row.limited _ key a.2 in
    let c = then (permit_of a.0.state) _ key b.2 in
    let d = passed (is_of_generation (map.get w.semaphores b.0.key) c.0) (Some b.0.key) key c.2 in
    let s = of_generation (map.get w.semaphores b.0.key) c.0 d.0 in
    let own = same_Some b.0.key key d.1 in
    record { job = a.0; found = a.1; limited = b.0; keyed = b.1; own_key = own; generation = c.0; permit = c.1; semaphore = s.0; stands = subst (λ k. map.get w.semaphores k ≡ Some s.0) own s.1; same = s.2 }

-- ---- after the end it can be taken

opened : (o : Option Semaphore) → is_open o ≡ true → (s : Semaphore) × (o ≡ Some s) × (is_closed o ≡ false)
opened None e = absurd (true≢false (sym e))
opened (Some s) e = (s, refl, grind (arith, e))

open_after : (m : ℕ) (t : Transition) (d : Draft) (id : ℕ) (key : List ℕ) → IsGood d.world → is_end t ≡ true → job_named t ≡ Some id → IsAllowed m d t → key_given d.world id ≡ Some key → is_open (map.get (push m t d).world.semaphores key) ≡ true
open_after m t d id key good end named h given =
    let g = gives_back d.world id key given in
    let c = rows_of m t d h in
    let at : (held (Some g.job) t).key ≡ Some key = key_ended t g.job g.generation end g.permit ∙ ap key_of g.keyed ∙ ap Some g.own_key in
    let there : (job_named t >>= map.get d.world.jobs) ≡ Some g.job = ap (λ k. k >>= map.get d.world.jobs) named ∙ g.found in
    let legal : changes m (sees_job d.world (Some g.job) t) t ≡ Some c.0 = subst (λ s. changes m s t ≡ Some c.0) (sees_named d.world t id (Some g.job) named g.found) c.1 in
    ap is_open (semaphore_here m t d c.0 c.1 key (ap (λ o. (held o t).key) there ∙ at))
    ∙ gave m (sees_job d.world (Some g.job) t) t c.0 g.job g.limited g.generation g.semaphore legal end refl g.keyed g.permit (ap (λ k. k >>= map.get d.world.semaphores) at ∙ g.stands) g.same (good.semaphores key g.semaphore g.stands).limit.0

-- ---- the job that is let go

module _ (m : ℕ) (t : Transition) (d : Draft) (id : ℕ) (good : IsGood d.world) (moment : IsMoment m) (ends : is_end t ≡ true) (named : job_named t ≡ Some id) (h : IsAllowed m d t) where
  pub after_good : IsGood (push m t d).world
  after_good = ended_good m t d id good moment ends named h

  pub unblocks : (key : List ℕ) (j : Job) (generation : ℕ) → key_given d.world id ≡ Some key → first_blocked (push m t d).world key ≡ Some j → generation ≡ generation_at (push m t d) key → IsAllowed m (push m t d) (Unblock j.row.id generation)
  unblocks key j generation given first is =
      let b = first_is_blocked (push m t d).world key j after_good first in
      let s = opened (map.get (push m t d).world.semaphores key) (open_after m t d id key good ends named h given) in
      subst (λ g. IsAllowed m (push m t d) (Unblock j.row.id g)) (sym is) (unblock_at m j.row.id key (push m t d) j b.found b.blocked b.keyed s.2 (λ none. absurd (true≢false (ap is_some (sym s.1 ∙ none)))))

  let_go_good : (key : List ℕ) (j : Job) → key_given d.world id ≡ Some key → first_blocked (push m t d).world key ≡ Some j → IsGood (let_go m key (push m t d) j).world
  let_go_good key j given first =
      let b = first_is_blocked (push m t d).world key j after_good first in
      let s = opened (map.get (push m t d).world.semaphores key) (open_after m t d id key good ends named h given) in
      let given_number : is_number (generation_at (push m t d) key) ≡ true = ap (λ o. is_number (generation_of (push m t d).given.generation o)) s.1 ∙ (after_good.semaphores key s.0 s.1).generation.0 in
      let range = and_from (is_number j.row.id) (is_number (generation_at (push m t d) key)) (after_good.jobs j.row.id j b.found).number.0 given_number in
      stays_good m (Unblock j.row.id (generation_at (push m t d) key)) (push m t d) after_good moment range (unblocks key j (generation_at (push m t d) key) given first refl)

  pub end_good : IsGood (end m id t d).0.world
  end_good = after_end (λ e. IsGood e.world) m id t d after_good let_go_good
