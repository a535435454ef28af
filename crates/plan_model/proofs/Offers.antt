-- The jobs on offer to a poll are ready, and differ from each other.
use Rattle.std.proofs.Common.{◌≡◌, ℕ, ℤ, Bool, true, false, ◌||◌, not, cond, List, [], ◌∷◌, map, Some, ap, sym, ◌∙◌, refl, subst, ⊎_elim}
use Rattle.std.proofs.lemmas.Bool.{true≢false}
use Rattle.std.proofs.lemmas.List.Elements.{Contains-append_cases}
use Rattle.std.proofs.lemmas.List.Folds.{flat_map-map}
use Rattle.std.specs.declared.cmp.Ordering.TheVariants.{Equal}
use Rattle.std.specs.Prelude.{filter, flat_map, Contains}
use Rattle.std.specs.Str.{bytes_eq}
use Rattle.job_states.specs.States.{stage_of, is_ready}
use Rattle.job_states.specs.Texts.{is_among}
use Rattle.job_states.specs.declared.row.Mode.TheVariants.{Alone}
use Rattle.job_states.specs.declared.row.Row.TheVariants as row
use Rattle.queue_selector.specs.Groups as groups
use Rattle.queue_selector.specs.Groups.{selects, unpaused_names, polls_all}
use Rattle.queue_model.specs.GoodWorld.{IsGood}
use Rattle.queue_model.specs.Map as finite
use Rattle.queue_model.specs.World.{World, text_cmp}
use Rattle.queue_model.specs.declared.Job.{Job}
use Rattle.queue_model.proofs.Cases.{same_bytes}
use Rattle.queue_model.proofs.Maps.{texts_total}
use Rattle.row_locks.proofs.Membership.{none, Contains-from_map, Contains-from_filter}
use Rattle.plan_model.specs.Books.{Book}
use Rattle.plan_model.specs.Orders.{priority_cmp, place_of, in_order, ready_jobs, ready_queues, names_in, selected, on_offer}
use Rattle.plan_model.specs.Scenes.{is_free}
use Rattle.plan_model.proofs.Apart.{AreApart, filter_apart, append_apart, flat_there, flat_apart, keys_apart, values_apart}
use Rattle.plan_model.proofs.MapLemmas.{entry_made, filter_passes}
use Rattle.plan_model.proofs.OrderLemmas.{priority_total, ordered, own_place}

-- ---- names that items select

there : (items names : List (List ℕ)) (n : List ℕ) → Contains (groups.selected items names) n → Contains names n
there [] names n h = absurd (none n h)
there (item ∷ items) names n h =
    let rest : List (List ℕ) = filter (λ name. not (selects item name)) names in
    ⊎_elim
    (λ here. Contains-from_filter (selects item) names n here)
    (λ later. Contains-from_filter (λ name. not (selects item name)) names n (there items rest n later))
    (Contains-append_cases (filter (selects item) names) (groups.selected items rest) n h)

not_both : (b : Bool) → b ≡ true → not b ≡ true → ⊥
not_both true e f = true≢false (sym f)
not_both false e f = true≢false (sym e)

-- each once
once : (items names : List (List ℕ)) → AreApart names → AreApart (groups.selected items names)
once [] names h = tt
once (item ∷ items) names h =
    let rest : List (List ℕ) = filter (λ name. not (selects item name)) names in
    append_apart (filter (selects item) names) (groups.selected items rest)
    (filter_apart (selects item) names h)
    (once items rest (filter_apart (λ name. not (selects item name)) names h))
    (λ n here later. not_both (selects item n) (filter_passes (selects item) names n here) (filter_passes (λ name. not (selects item name)) names n (there items rest n later)))

-- ---- jobs in order

pub in_order_apart : (jobs : List Job) → AreApart (in_order jobs)
in_order_apart jobs = values_apart priority_total place_of made.entries made.sorted (λ e h.
    let from = entry_made priority_total entries e h in
    let job = Contains-from_map (λ (x : Job). (place_of x, x)) jobs from.0 from.1 in
    let place : from.0.0 ≡ place_of e.1 = sym (ap (λ (x : (ℤ × ℕ) × Job). x.0) job.2) ∙ ap place_of (ap (λ (x : (ℤ × ℕ) × Job). x.1) job.2 ∙ from.2) in
    subst (λ k. priority_cmp e.0 k ≡ Equal) place from.3)
  where
    entries : List ((ℤ × ℕ) × Job)
    entries = map (λ (x : Job). (place_of x, x)) jobs

    made : finite.Map priority_cmp Job
    made = finite.from_entries entries

-- ---- jobs of groups

abbrev of_group : World → List (List ℕ) → List Job
of_group w group = in_order (filter (λ j. is_among group j.row.queue) (ready_jobs w))

from_group : (w : World) (group : List (List ℕ)) (j : Job) → Contains (of_group w group) j → Contains (filter (λ j. is_among group j.row.queue) (ready_jobs w)) j
from_group w group j h = ordered (filter (λ j. is_among group j.row.queue) (ready_jobs w)) j h

only : (b : Bool) → (b || false) ≡ true → b ≡ true
only true e = refl
only false e = e

queue_is : (w : World) (name : List ℕ) (j : Job) → Contains (of_group w (name ∷ [])) j → name ≡ j.row.queue
queue_is w name j h = same_bytes name j.row.queue (only (bytes_eq name j.row.queue) (filter_passes (λ (j : Job). is_among (name ∷ []) j.row.queue) (ready_jobs w) j (from_group w (name ∷ []) j h)))

queues_apart : (w : World) → AreApart (ready_queues w)
queues_apart w = keys_apart texts_total made.entries made.sorted
  where
    made : finite.Map text_cmp (Unit {0})
    made = finite.from_entries (map (λ (j : Job). (j.row.queue, tt)) (ready_jobs w))

selected_apart : (w : World) (items : List (List ℕ)) → AreApart (selected w items)
selected_apart w items = by (polls_all items)
  where
    names : List (List ℕ)
    names = unpaused_names (ready_queues w) (names_in w.paused)

    names_apart : AreApart names
    names_apart = filter_apart (λ name. not (is_among (names_in w.paused) name)) (ready_queues w) (queues_apart w)

    by : (b : Bool) → AreApart (flat_map (of_group w) (cond b (names ∷ []) (map (λ name. name ∷ []) (groups.selected items names))))
    by true = append_apart (of_group w names) [] (in_order_apart (filter (λ j. is_among names j.row.queue) (ready_jobs w))) tt (λ j here later. none j later)
    by false = subst AreApart (sym (flat_map-map (of_group w) (λ (name : List ℕ). name ∷ []) (groups.selected items names)))
        (flat_apart (λ name. of_group w (name ∷ [])) (groups.selected items names) (once items names names_apart)
        (λ name. in_order_apart (filter (λ j. is_among (name ∷ []) j.row.queue) (ready_jobs w)))
        (λ x z j here later. queue_is w z j later ∙ sym (queue_is w x j here)))

-- ---- jobs on offer

pub offers_apart : (b : Book) (items : List (List ℕ)) → AreApart (on_offer b items)
offers_apart b items = filter_apart (λ j. is_free b (row.Job j.row.id) Alone) (selected b.world items) (selected_apart b.world items)

pub record IsReady (w : World) (j : Job) : Type 0 where
  pub found : finite.get w.jobs j.row.id ≡ Some j
  pub ready : is_ready (Some (stage_of j.state)) ≡ true

pub offers_ready : (b : Book) (items : List (List ℕ)) (j : Job) → IsGood b.world → Contains (on_offer b items) j → IsReady b.world j
offers_ready b items j good h =
    let group = flat_there (of_group b.world) (groups.groups_of items (ready_queues b.world) (names_in b.world.paused)) j (Contains-from_filter (λ (j : Job). is_free b (row.Job j.row.id) Alone) (selected b.world items) j h) in
    let here : Contains (ready_jobs b.world) j = Contains-from_filter (λ (j : Job). is_among group.0 j.row.queue) (ready_jobs b.world) j (from_group b.world group.0 j group.2) in
    record {
      found = own_place b.world j good (Contains-from_filter (λ (j : Job). is_ready (Some (stage_of j.state))) (finite.values b.world.jobs) j here);
      ready = filter_passes (λ (j : Job). is_ready (Some (stage_of j.state))) (finite.values b.world.jobs) j here;
    }
