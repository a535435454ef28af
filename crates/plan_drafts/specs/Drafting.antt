-- A draft as a contract sees it.
use Rattle.std.specs.Prelude.{◌≡◌, ℕ, List, [], ◌++◌}
use Rattle.std.proofs.Common.{refl}
use Rattle.std.specs.Coded.{Coded, code_by, coded×, coded_ℕ, coded_list}
use Rattle.job_states.specs.contracts.Mode as mode
use Rattle.job_states.specs.contracts.Row as row
use Rattle.job_states.specs.contracts.Transition as transition
use Rattle.job_states.specs.declared.row.Mode.{Mode}
use Rattle.job_states.specs.declared.row.Row.{Row}
use Rattle.job_states.specs.declared.transition.Transition.{Transition}
use Rattle.queue_model.specs.World.{World}
use Rattle.queue_model.specs.contracts.Numbers as numbers
use Rattle.queue_model.specs.declared.Numbers.{Numbers}
use Rattle.exec_tables.specs.Store.{Store}
use Rattle.exec_tables.specs.Stored.{coded_store}
use Rattle.plan_model.specs.Drafts.{Draft, push}
use Rattle.plan_model.specs.Scenes.{Scene}
use Rattle.plan_drafts.specs.Left.{steps_of, world_after}
use Rattle.plan_drafts.specs.declared.pushed.Pushed.{Pushed}

pub record Drafting : Type 0 where
  -- as it began
  pub begun : Draft
  pub moment : ℕ
  -- as it is now
  pub draft : Draft

-- nothing is pushed yet
abbrev pub begun_in : World → (given : Numbers) → Draft
begun_in w given = record { world = w; steps = []; rows = []; given = given }

-- what was pushed and held since, and the numbers that are given next by now
abbrev pub drafting : World → (moment : ℕ) → (first given : Numbers) → List Pushed → List (Row × Mode) → Drafting
drafting w m first given pushed rows = record {
  begun = begun_in w first;
  moment = m;
  draft = record { world = world_after w m pushed; steps = steps_of pushed; rows = rows; given = given };
}

abbrev pub with_draft : Drafting → Draft → Drafting
with_draft d draft = record d { draft = draft }

-- with these rows held too
abbrev pub with_rows : Drafting → List (Row × Mode) → Drafting
with_rows d rows = with_draft d (record d.draft { rows = d.draft.rows ++ rows })

-- with this transition pushed, but for the rows that it holds
abbrev pub with_step : Drafting → Transition → Drafting
with_step d t = with_draft d (record (push d.moment t d.draft) { rows = d.draft.rows })

-- a call gives this draft and this value
pub record GivesDraft {A : Type 0} (old new : Drafting) (given : Draft × A) (value : A) : Type 0 where
  pub draft : new ≡ with_draft old given.0
  pub value_is : value ≡ given.1

-- it was begun in the scene
pub record IsBegunIn (s : Scene) (d : Drafting) : Type 0 where
  pub given : s.book.given ≡ d.begun.given
  pub moment : s.moment ≡ d.moment

-- ---- how a proof tells two of them apart: each as the tuple of its parts

abbrev coded_world : Coded World
coded_world = code_by Store coded_store (λ w. record { world = w; spare = 0 }) (λ s. s.world) (λ _. refl)

abbrev coded_draft : Coded Draft
coded_draft =
    code_by (World × (List Transition × (List (Row × Mode) × Numbers))) (coded× coded_world (coded× (coded_list transition.the_row.coded) (coded× (coded_list (coded× row.the_row.coded mode.the_row.coded)) numbers.the_row.coded)))
    (λ d. (d.world, (d.steps, (d.rows, d.given)))) (λ t. record { world = t.0; steps = t.1.0; rows = t.1.1.0; given = t.1.1.1 }) (λ _. refl)

abbrev pub coded_drafting : Coded Drafting
coded_drafting = code_by (Draft × (ℕ × Draft)) (coded× coded_draft (coded× coded_ℕ coded_draft)) (λ d. (d.begun, (d.moment, d.draft))) (λ t. record { begun = t.0; moment = t.1.0; draft = t.1.1 }) (λ _. refl)
