-- What stands in a draft after a transition, of what stood there.
use Rattle.std.proofs.Common.{◌≡◌, ◌≢◌, ◌+◌, ℕ, Bool, true, false, List, Option, None, Some, is_some, ap, sym, ◌∙◌, refl, count_by, ⊎_elim, arith}
use Rattle.std.proofs.lemmas.Bool.{true≢false, cases_eq}
use Rattle.std.specs.Cmp.{nat_cmp_total}
use Rattle.std.specs.FinMap.{nat_cmp-IsAntisymmetric}
use Rattle.std.specs.declared.cmp.Ordering.{Ordering}
use Rattle.job_states.specs.Ranges.{is_in_range}
use Rattle.job_states.specs.declared.row.Mode.TheVariants.{Shared, Alone}
use Rattle.job_states.specs.declared.row.Row.TheVariants as row
use Rattle.job_states.specs.declared.transition.Transition.{Transition}
use Rattle.queue_model.specs.Chain.{◌>>=◌}
use Rattle.queue_model.specs.Held.{held, holds}
use Rattle.queue_model.specs.Map as map
use Rattle.queue_model.specs.Map.{Map}
use Rattle.queue_model.specs.Named.{job_named, noted}
use Rattle.queue_model.specs.Sights.{Rows, Sight, sees, set, pid_of}
use Rattle.queue_model.specs.Transitions.{changes, step}
use Rattle.queue_model.specs.World.{World, claims, is_claimed_by}
use Rattle.queue_model.specs.declared.Job.{Job}
use Rattle.queue_model.proofs.Cases.{claims_stay}
use Rattle.queue_model.proofs.Fits.{after_set}
use Rattle.queue_model.proofs.Frames.{one, kept as unchanged}
use Rattle.queue_model.proofs.Maps.{get-set_same, get-set_other, texts_total, exact_texts}
use Rattle.queue_model.proofs.Steps.{same_Some, world_after, count_after, keeps, steps_to}
use Rattle.plan_model.specs.Drafts.{Draft, push, moved, with_changes}
use Rattle.plan_model.specs.GoodDraft.{IsAllowed, moves_process}

-- ---- the world after

pub moved_to : (m : ℕ) (t : Transition) (w : World) (c : Rows) → changes m (sees w (holds w t)) t ≡ Some c → moved w m t ≡ world_after w m t c
moved_to m t w c e = ap (with_changes w m t) e

pub some_there : {A : Type 0} (o : Option A) → is_some o ≡ true → (x : A) × (o ≡ Some x)
some_there None e = absurd (true≢false (sym e))
some_there (Some x) e = (x, refl)

pub rows_of : (m : ℕ) (t : Transition) (d : Draft) → IsAllowed m d t → (c : Rows) × (changes m (sees d.world (holds d.world t)) t ≡ Some c)
rows_of m t d h = some_there (changes m (sees d.world (holds d.world t)) t) h.legal

-- with its ranges, it is a step
pub legal_step : (m : ℕ) (t : Transition) (d : Draft) → is_in_range t ≡ true → IsAllowed m d t → step d.world m t ≡ Some (push m t d).world
legal_step m t d range h = let c = rows_of m t d h in steps_to d.world m t c.0 range c.1 ∙ ap Some (sym (moved_to m t d.world c.0 c.1))

-- ---- at a row that is held

module _ (m : ℕ) (t : Transition) (d : Draft) (c : Rows) (legal : changes m (sees d.world (holds d.world t)) t ≡ Some c) where
  after : (push m t d).world ≡ world_after d.world m t c
  after = moved_to m t d.world c legal

  pub job_here : (id : ℕ) → job_named t ≡ Some id → map.get (push m t d).world.jobs id ≡ c.job
  job_here id named = ap (λ w. map.get w.jobs id) after ∙ ap (λ k. map.get (set d.world.jobs k c.job) id) named ∙ get-set_same nat_cmp_total d.world.jobs id c.job

  pub semaphore_here : (key : List ℕ) → (holds d.world t).key ≡ Some key → map.get (push m t d).world.semaphores key ≡ c.semaphore
  semaphore_here key held = ap (λ w. map.get w.semaphores key) after ∙ ap (λ k. map.get (set d.world.semaphores k c.semaphore) key) held ∙ get-set_same texts_total d.world.semaphores key c.semaphore

  pub process_here : (pid : ℕ) → pid_of (holds d.world t).process ≡ Some pid → map.get (push m t d).world.processes pid ≡ c.process
  process_here pid held = ap (λ w. map.get w.processes pid) after ∙ ap (λ k. map.get (set d.world.processes k c.process) pid) held ∙ get-set_same nat_cmp_total d.world.processes pid c.process

  pub counted : (p : Job → Bool) → count_by p (map.values (push m t d).world.jobs) + one p (sees d.world (holds d.world t)).rows.job ≡ count_by p (map.values d.world.jobs) + one p c.job
  counted p = ap (λ w. count_by p (map.values w.jobs) + one p (sees d.world (holds d.world t)).rows.job) after ∙ count_after p d.world m t c legal

-- ---- limits

-- no transition changes the limit of a job that is there
limit_kept : (m : ℕ) (s : Sight) (t : Transition) (c : Rows) (j k : Job) → changes m s t ≡ Some c → s.rows.job ≡ Some j → c.job ≡ Some k → k.row.limited ≡ j.row.limited
limit_kept m s t c j k h before after = grind arith

pub limits_stay : (m : ℕ) (t : Transition) (d : Draft) (id : ℕ) (j k : Job) → map.get d.world.jobs id ≡ Some j → map.get (push m t d).world.jobs id ≡ Some k → k.row.limited ≡ j.row.limited
limits_stay m t d id j k before after = by (changes m (sees d.world (holds d.world t)) t) refl after
  where
    same : map.get d.world.jobs id ≡ Some k → k.row.limited ≡ j.row.limited
    same e = ap (λ (x : Job). x.row.limited) (same_Some k j (sym e ∙ before))

    by : (o : Option Rows) → changes m (sees d.world (holds d.world t)) t ≡ o → map.get (with_changes d.world m t o).jobs id ≡ Some k → k.row.limited ≡ j.row.limited
    by None e is = same is
    by (Some c) e is = ⊎_elim
        (λ (here : _). limit_kept m (sees d.world (holds d.world t)) t c j k e (ap (λ o. o >>= map.get d.world.jobs) here.0 ∙ before) (sym here.1 ∙ is))
        (λ (other : _). same (sym other.1 ∙ is))
        (after_set nat_cmp_total nat_cmp-IsAntisymmetric cases_eq d.world.jobs (job_named t) c.job id)

-- ---- at other rows, also where it isn't allowed

none_held : {K X : Type 0} {R : K → K → Ordering} (m : Map R X) (x : Option X) (k : Option K) → k ≡ None → set m k x ≡ m
none_held m x k e = ap (λ o. set m o x) e

module _ (m : ℕ) (t : Transition) (d : Draft) where
  -- what no legal change of its rows changes
  kept : {X : Type 0} (f : World → X) → ((c : Rows) → changes m (sees d.world (holds d.world t)) t ≡ Some c → f (world_after d.world m t c) ≡ f d.world) → f (push m t d).world ≡ f d.world
  kept f same = by (changes m (sees d.world (holds d.world t)) t) refl
    where
      by : (o : Option Rows) → changes m (sees d.world (holds d.world t)) t ≡ o → f (with_changes d.world m t o) ≡ f d.world
      by None e = refl
      by (Some c) e = same c e

  pub job_there : (id : ℕ) → job_named t ≢ Some id → map.get (push m t d).world.jobs id ≡ map.get d.world.jobs id
  job_there id other = kept (λ w. map.get w.jobs id) (λ c e. get-set_other nat_cmp_total nat_cmp-IsAntisymmetric d.world.jobs (job_named t) c.job id other)

  pub semaphore_there : (key : List ℕ) → (holds d.world t).key ≢ Some key → map.get (push m t d).world.semaphores key ≡ map.get d.world.semaphores key
  semaphore_there key other = kept (λ w. map.get w.semaphores key) (λ c e. get-set_other texts_total exact_texts d.world.semaphores (holds d.world t).key c.semaphore key other)

  pub pause_there : (queue : List ℕ) → (holds d.world t).queue ≢ Some queue → map.get (push m t d).world.paused queue ≡ map.get d.world.paused queue
  pause_there queue other = kept (λ w. map.get w.paused queue) (λ c e. get-set_other texts_total exact_texts d.world.paused (holds d.world t).queue c.pause queue other)

  pub process_there : (pid : ℕ) → (holds d.world t).process ≢ Some (pid, Alone) → map.get (push m t d).world.processes pid ≡ map.get d.world.processes pid
  process_there pid other = kept (λ w. map.get w.processes pid) (λ c e. sym (unchanged d.world (holds d.world t) c (noted d.world.numbers m t) (keeps d.world m t c e) (row.Process pid) Shared other))

  pub claims_kept : (pid : ℕ) → (holds d.world t).process ≢ Some (pid, Shared) → claims (push m t d).world pid ≡ claims d.world pid
  claims_kept pid other = kept (λ w. claims w pid) same
    where
      same : (c : Rows) → changes m (sees d.world (holds d.world t)) t ≡ Some c → claims (world_after d.world m t c) pid ≡ claims d.world pid
      same c e =
          let total = count_after (is_claimed_by pid) d.world m t c e in
          let one = claims_stay m (sees d.world (holds d.world t)) t c pid e other in
          omega (arith, total, one)

  pub jobs_stay : job_named t ≡ None → (push m t d).world.jobs ≡ d.world.jobs
  jobs_stay none = kept (λ w. w.jobs) (λ c e. none_held d.world.jobs c.job (job_named t) none)

  pub semaphores_stay : (holds d.world t).key ≡ None → (push m t d).world.semaphores ≡ d.world.semaphores
  semaphores_stay none = kept (λ w. w.semaphores) (λ c e. none_held d.world.semaphores c.semaphore (holds d.world t).key none)

  pub pauses_stay : (holds d.world t).queue ≡ None → (push m t d).world.paused ≡ d.world.paused
  pauses_stay none = kept (λ w. w.paused) (λ c e. none_held d.world.paused c.pause (holds d.world t).queue none)

  pub processes_stay : moves_process t ≡ false → (pid : ℕ) → map.get (push m t d).world.processes pid ≡ map.get d.world.processes pid
  processes_stay still pid = process_there pid (shares (job_named t >>= map.get d.world.jobs) still)
    where
      shares : (j : Option Job) → moves_process t ≡ false → (held j t).process ≢ Some (pid, Alone)
      shares j still e = grind arith
