-- The blocked jobs whose time is over, key by key, are jobs of the tables, each once.
use Rattle.std.proofs.Common.{◌≡◌, ℕ, Bool, true, ◌&&◌, List, map, Option, None, Some, ap, sym, ◌∙◌, refl, subst}
use Rattle.std.proofs.lemmas.Bool.{true≢false, and_from}
use Rattle.std.specs.Prelude.{filter, flat_map, Contains}
use Rattle.job_states.specs.States.{stage_of, is_blocked}
use Rattle.job_states.specs.declared.job.JobRow.{JobRow}
use Rattle.job_states.specs.declared.job.Limited.{Limited}
use Rattle.job_states.specs.declared.job.State.{State}
use Rattle.job_states.specs.declared.job.State.TheVariants as state
use Rattle.queue_model.specs.Map as finite
use Rattle.queue_model.specs.World.{World, text_cmp, is_key, job}
use Rattle.queue_model.specs.declared.Job.{Job}
use Rattle.queue_model.proofs.Cases.{same_bytes}
use Rattle.queue_model.proofs.Maps.{texts_total}
use Rattle.row_locks.proofs.Membership.{Contains-from_map, Contains-from_filter}
use Rattle.plan_model.specs.Orders.{in_order, names_in}
use Rattle.plan_model.specs.UpkeepCommands.{is_overdue, overdue_jobs, overdue, key_entry}
use Rattle.plan_model.proofs.Apart.{AreApart, flat_there, flat_apart, map_apart, keys_apart}
use Rattle.plan_model.proofs.MapLemmas.{filter_passes}
use Rattle.plan_model.proofs.Offers.{in_order_apart}
use Rattle.plan_model.proofs.OrderLemmas.{ordered}

abbrev at_key : World → ℕ → List ℕ → List (List ℕ × Job)
at_key w m key = map (λ j. (key, j)) (in_order (filter (λ j. is_key key j.row.limited) (overdue_jobs w m)))

abbrev keys_of : World → ℕ → finite.Map text_cmp (Unit {0})
keys_of w m = finite.from_entries (flat_map key_entry (overdue_jobs w m))

-- it is blocked under this key
abbrev pub is_late : ℕ → List ℕ × Job → Bool
is_late m e = is_overdue m e.1 && is_key e.0 e.1.row.limited

pub record IsLate (w : World) (m : ℕ) (e : List ℕ × Job) : Type 0 where
  pub there : Contains (finite.values w.jobs) e.1
  pub late : is_late m e ≡ true

late_at : (w : World) (m : ℕ) (key : List ℕ) (e : List ℕ × Job) → Contains (at_key w m key) e → (key ≡ e.0) × IsLate w m e
late_at w m key e h =
    let jobs : List Job = filter (λ j. is_key key j.row.limited) (overdue_jobs w m) in
    let j = Contains-from_map (λ (j : Job). (key, j)) (in_order jobs) e h in
    let here : Contains jobs j.0 = ordered jobs j.0 j.1 in
    let over : Contains (overdue_jobs w m) j.0 = Contains-from_filter (λ (j : Job). is_key key j.row.limited) (overdue_jobs w m) j.0 here in (
      ap (λ (x : List ℕ × Job). x.0) j.2,
      subst (IsLate w m) j.2 (record {
        there = Contains-from_filter (is_overdue m) (finite.values w.jobs) j.0 over;
        late = and_from (is_overdue m j.0) (is_key key j.0.row.limited) (filter_passes (is_overdue m) (finite.values w.jobs) j.0 over) (filter_passes (λ (j : Job). is_key key j.row.limited) (overdue_jobs w m) j.0 here);
      }),
    )

pub late_is : (w : World) (m : ℕ) (e : List ℕ × Job) → Contains (overdue w m) e → IsLate w m e
late_is w m e h = let key = flat_there (at_key w m) (names_in (keys_of w m)) e h in (late_at w m key.0 e key.2).1

pub late_apart : (w : World) (m : ℕ) → AreApart (overdue w m)
late_apart w m = flat_apart (at_key w m) (names_in (keys_of w m)) (keys_apart texts_total (keys_of w m).entries (keys_of w m).sorted)
    (λ key. map_apart (λ (j : Job). (key, j)) (in_order (filter (λ j. is_key key j.row.limited) (overdue_jobs w m))) (in_order_apart (filter (λ j. is_key key j.row.limited) (overdue_jobs w m)))
    (λ x z same. ap (λ (p : List ℕ × Job). p.1) same))
    (λ key other e here later. (late_at w m other e later).0 ∙ sym (late_at w m key e here).0)

-- a job's key is one
pub one_key : (a b : List ℕ) (o : Option Limited) → is_key a o ≡ true → is_key b o ≡ true → a ≡ b
one_key a b None p q = absurd (true≢false (sym p))
one_key a b (Some limited) p q = sym (same_bytes limited.key a p) ∙ same_bytes limited.key b q

pub overdue_blocked : (m : ℕ) (row : JobRow) (st : State) → is_overdue m (job row st) ≡ true → is_blocked (Some (stage_of st)) ≡ true
overdue_blocked m row (state.Blocked until) e = refl
overdue_blocked m row (state.Scheduled at) e = absurd (true≢false (sym e))
overdue_blocked m row (state.Ready permit) e = absurd (true≢false (sym e))
overdue_blocked m row (state.Claimed pid permit) e = absurd (true≢false (sym e))
overdue_blocked m row (state.Failed error message) e = absurd (true≢false (sym e))
overdue_blocked m row (state.Finished at) e = absurd (true≢false (sym e))
