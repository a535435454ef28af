-- A draft in a good world stays in one.
use Rattle.std.proofs.Common.{◌≡◌, ◌≤◌, max, ℕ, true, Option, None, Some, sym, subst, arith}
use Rattle.job_states.specs.Moment.{is_moment}
use Rattle.job_states.specs.Ranges.{is_in_range}
use Rattle.job_states.specs.declared.row.Mode.{Mode}
use Rattle.job_states.specs.declared.row.Row.{Row}
use Rattle.job_states.specs.declared.transition.Transition.{Transition}
use Rattle.queue_model.specs.GoodWorld.{IsGood}
use Rattle.queue_model.specs.Named.{job_named, pid_named, generation_named, noted, above}
use Rattle.queue_model.specs.Transitions.{step}
use Rattle.queue_model.specs.World.{World}
use Rattle.queue_model.specs.declared.Numbers.{Numbers}
use Rattle.queue_model.proofs.Good.{step_good}
use Rattle.queue_model.proofs.Steps.{step_is, steps_to, world_after}
use Rattle.plan_model.specs.Drafts.{Draft, push, holding}
use Rattle.plan_model.specs.GoodBook.{AreAbove}
use Rattle.plan_model.specs.GoodDraft.{IsAllowed, IsFresh}
use Rattle.plan_model.proofs.AllowedSeen.{rows_of}
use Rattle.plan_model.proofs.DraftLemmas.{IsDraftOf, pushed, moved_is, held_besides}
use Rattle.plan_model.proofs.FreshLemmas.{fresh_over}

pub record IsGoodDraft (w0 : World) (m : ℕ) (d : Draft) : Type 0 where
  pub draft : IsDraftOf w0 m d
  pub good : IsGood d.world
  pub above : AreAbove d.world.numbers d.given

above_above : (a b : ℕ) (o : Option ℕ) → a ≤ b → above a o ≤ above b o
above_above a b None h = h
above_above a b (Some n) h = omega (arith, h)

still_above : (w v : World) (m : ℕ) (t : Transition) (given : Numbers) → step w m t ≡ Some v → AreAbove w.numbers given → AreAbove v.numbers (noted given m t)
still_above w v m t given e h = let s = step_is w v m t e in subst (λ n. AreAbove n.numbers (noted given m t)) s.1.after (record {
  job = above_above w.numbers.job given.job (job_named t) h.job;
  pid = above_above w.numbers.pid given.pid (pid_named t) h.pid;
  generation = above_above w.numbers.generation given.generation (generation_named t) h.generation;
  moment = later w.numbers.moment given.moment h.moment;
})
  where
    later : (a b : ℕ) → a ≤ b → max a m ≤ max b m
    later a b le = omega (arith, le)

pushed_good : (w0 v : World) (m : ℕ) (t : Transition) (d : Draft) → is_moment m ≡ true → IsGoodDraft w0 m d → step d.world m t ≡ Some v → IsGoodDraft w0 m (push m t d)
pushed_good w0 v m t d moment h e = record {
  draft = pushed w0 v m t d h.draft e;
  good = subst IsGood (sym (moved_is d.world v m t e)) (step_good d.world v m t h.good moment e);
  above = subst (λ n. AreAbove n.numbers (noted d.given m t)) (sym (moved_is d.world v m t e)) (still_above d.world v m t d.given e h.above);
}

pub holding_good : (w0 : World) (m : ℕ) (r : Row) (mode : Mode) (d : Draft) → IsGoodDraft w0 m d → IsGoodDraft w0 m (holding r mode d)
holding_good w0 m r mode d h = record { draft = held_besides w0 m r mode d h.draft; good = h.good; above = h.above }

-- a transition that is allowed and within its ranges
pub stepped : (w0 : World) (m : ℕ) (t : Transition) (d : Draft) → is_moment m ≡ true → is_in_range t ≡ true → IsAllowed m d t → IsGoodDraft w0 m d → IsGoodDraft w0 m (push m t d)
stepped w0 m t d moment range allowed h =
    let rows = rows_of m t d allowed in
    pushed_good w0 (world_after d.world m t rows.0) m t d moment h (steps_to d.world m t rows.0 range rows.1)

-- no number that is given next is in it
pub fresh : (w0 : World) (m : ℕ) (d : Draft) → IsGoodDraft w0 m d → IsFresh d.world d.given
fresh w0 m d h = fresh_over d.world d.given h.good h.above
