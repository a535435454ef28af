-- What a command takes of its cases, one after another.
use Rattle.std.specs.Prelude.{◌≡◌, ℕ, Bool, nat_le, List, true, fold, Option, Some}
use Rattle.job_states.specs.declared.transition.Transition.{Transition}
use Rattle.plan_drafts.specs.Drafting.{Drafting, with_draft}
use Rattle.plan_drafts.specs.Pushes.{IsKnown, NamesNext}
use Rattle.plan_model.specs.Drafts.{Draft, and_case, begin, push}
use Rattle.plan_model.specs.GoodDraft.{IsAllowed}
use Rattle.plan_model.specs.Scenes.{Scene, are_free}
use Rattle.plan_scenes.specs.Begun as scenes
use Rattle.transition_table.specs.Seen.{IsFit, new_limit}

pub record Taking : Type 0 where
  pub scene : Scene
  -- at most so many cases are taken
  pub most : ℕ
  pub drafting : Drafting
  pub taken : ℕ

abbrev pub taking : Scene → (most : ℕ) → Drafting → (taken : ℕ) → Taking
taking s most d taken = record { scene = s; most = most; drafting = d; taken = taken }

abbrev pub begun : Scene → (most : ℕ) → Taking
begun s most = taking s most (scenes.begun s) 0

abbrev pub is_full : Taking → Bool
is_full t = nat_le t.most t.taken

-- it began in its scene, and all rows that it holds are free
pub record IsTaking (t : Taking) : Type 0 where
  pub begun : t.drafting.begun ≡ begin t.scene
  pub moment : t.drafting.moment ≡ t.scene.moment
  pub free : are_free t.scene.book t.drafting.draft.rows ≡ true

abbrev pub so_far : Taking → Draft × ℕ
so_far t = (t.drafting.draft, t.taken)

abbrev pub with_so_far : Taking → Draft × ℕ → Taking
with_so_far t done = record t { drafting = with_draft t.drafting done.0; taken = done.1 }

-- with the cases done in turn
abbrev pub with_cases : Taking → List (Draft → Option Draft) → Taking
with_cases t cases = with_so_far t (fold (and_case t.scene t.most) (so_far t) cases)

-- with the case of this transition done
abbrev pub with_step : Taking → Transition → Taking
with_step t step = with_so_far t (and_case t.scene t.most (so_far t) (λ d. Some (push t.scene.moment step d)))

-- what the draft asks of the transition
pub record MayTake (t : Taking) (step : Transition) : Type 0 where
  pub taking : IsTaking t
  pub allowed : IsAllowed t.scene.moment t.drafting.draft step
  pub known : IsKnown t.scene.book.world step
  pub next : NamesNext t.drafting.draft.given step
  pub fit : IsFit (new_limit step)
