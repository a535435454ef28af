-- The due jobs are jobs of the tables, each once.
use Rattle.std.proofs.Common.{◌≡◌, ℕ, ℤ, Bool, true, false, cond, nat_le, List, [], ◌∷◌, ap, sym, ◌∙◌, refl, subst, ⊎_elim}
use Rattle.std.proofs.lemmas.Cmp.{on_total, then_total}
use Rattle.std.specs.Cmp.{IsTotalOrder, nat_cmp_total}
use Rattle.std.specs.Prelude.{flat_map, Contains}
use Rattle.std.specs.declared.cmp.Ordering.TheVariants.{Equal}
use Rattle.job_states.specs.declared.job.JobRow.{JobRow}
use Rattle.job_states.specs.declared.job.State.{State}
use Rattle.job_states.specs.declared.job.State.TheVariants as state
use Rattle.queue_model.specs.Map as finite
use Rattle.queue_model.specs.Transitions.{is_due}
use Rattle.queue_model.specs.World.{World, job}
use Rattle.queue_model.specs.declared.Job.{Job}
use Rattle.row_locks.proofs.Membership.{none, Contains-cons_cases, Contains-from_map}
use Rattle.plan_model.specs.Orders.{place_of}
use Rattle.plan_model.specs.UpkeepCommands.{due_cmp, due_entry, due_jobs}
use Rattle.plan_model.proofs.Apart.{AreApart, flat_there, values_apart}
use Rattle.plan_model.proofs.MapLemmas.{entry_made}
use Rattle.plan_model.proofs.OrderLemmas.{priority_total}

abbrev due_at : Job → ℕ
due_at j = by j.state
  where
    by : State → ℕ
    by (state.Scheduled at) = at
    by s = 0

abbrev due_place : Job → ℕ × (ℤ × ℕ)
due_place j = (due_at j, place_of j)

record IsDueEntry (m : ℕ) (j : Job) (e : (ℕ × (ℤ × ℕ)) × Job) : Type 0 where
  is : (due_place j, j) ≡ e
  due : is_due m j.state ≡ true

due_from : (m : ℕ) (row : JobRow) (st : State) (e : (ℕ × (ℤ × ℕ)) × Job) → Contains (due_entry m (job row st)) e → IsDueEntry m (job row st) e
due_from m row (state.Scheduled at) e h = by (nat_le at m) refl h
  where
    entry : (ℕ × (ℤ × ℕ)) × Job
    entry = (due_place (job row (state.Scheduled at)), job row (state.Scheduled at))

    by : (b : Bool) → nat_le at m ≡ b → Contains (cond b (entry ∷ []) []) e → IsDueEntry m (job row (state.Scheduled at)) e
    by true due h = record { is = ⊎_elim (λ same. same) (λ none_left. absurd (none e none_left)) (Contains-cons_cases entry [] e h); due = due }
    by false due h = absurd (none e h)
due_from m row (state.Ready permit) e h = absurd (none e h)
due_from m row (state.Blocked until) e h = absurd (none e h)
due_from m row (state.Claimed pid permit) e h = absurd (none e h)
due_from m row (state.Failed error message) e h = absurd (none e h)
due_from m row (state.Finished at) e h = absurd (none e h)

due_total : IsTotalOrder due_cmp
due_total = then_total (on_total (λ (p : ℕ × (ℤ × ℕ)). p.0) nat_cmp_total) (on_total (λ (p : ℕ × (ℤ × ℕ)). p.1) priority_total)

abbrev due_entries : World → ℕ → List ((ℕ × (ℤ × ℕ)) × Job)
due_entries w m = flat_map (due_entry m) (finite.values w.jobs)

abbrev placed : World → ℕ → finite.Map due_cmp Job
placed w m = finite.from_entries (due_entries w m)

pub record IsDueJob (w : World) (m : ℕ) (j : Job) : Type 0 where
  pub there : Contains (finite.values w.jobs) j
  pub due : is_due m j.state ≡ true

-- an entry of them is of a due job, at its place
due_made : (w : World) (m : ℕ) (e : (ℕ × (ℤ × ℕ)) × Job) → Contains (placed w m).entries e → IsDueJob w m e.1 × (due_cmp e.0 (due_place e.1) ≡ Equal)
due_made w m e h =
    let from = entry_made due_total (due_entries w m) e h in
    let at = flat_there (due_entry m) (finite.values w.jobs) from.0 from.1 in
    let entry : IsDueEntry m at.0 from.0 = due_from m at.0.row at.0.state from.0 at.2 in
    let same : at.0 ≡ e.1 = ap (λ (x : (ℕ × (ℤ × ℕ)) × Job). x.1) entry.is ∙ from.2 in (
      record { there = subst (Contains (finite.values w.jobs)) same at.1; due = subst (λ (j : Job). is_due m j.state ≡ true) same entry.due },
      subst (λ k. due_cmp e.0 k ≡ Equal) (sym (ap (λ (x : (ℕ × (ℤ × ℕ)) × Job). x.0) entry.is) ∙ ap due_place same) from.3,
    )

pub due_is : (w : World) (m : ℕ) (j : Job) → Contains (due_jobs w m) j → IsDueJob w m j
due_is w m j h =
    let e = Contains-from_map (λ (x : (ℕ × (ℤ × ℕ)) × Job). x.1) (placed w m).entries j h in
    subst (IsDueJob w m) e.2 (due_made w m e.0 e.1).0

pub due_apart : (w : World) (m : ℕ) → AreApart (due_jobs w m)
due_apart w m = values_apart due_total due_place (placed w m).entries (placed w m).sorted (λ e h. (due_made w m e h).1)
