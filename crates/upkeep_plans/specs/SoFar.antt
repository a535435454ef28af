-- A loop over the cases of a command.
use Rattle.std.specs.Prelude.{◌≡◌, ℕ, List, map, Option}
use Rattle.plan_model.specs.Drafts.{Draft}
use Rattle.plan_model.specs.Scenes.{Scene}
use Rattle.upkeep_plans.specs.Taking.{IsTaking, Taking, with_cases}

-- of the cases of these items all are done but those that are left, and what is left stands as it stood
pub record IsSoFar {A : Type 0} (case : (moment : ℕ) → A → Draft → Option Draft) (Stands : Scene → List A → Draft → Type 0) (first : Taking) (all : List A) (t : Taking) (left : List A) : Type 0 where
  pub scene : t.scene ≡ first.scene
  pub same : with_cases t (map (case t.scene.moment) left) ≡ with_cases first (map (case first.scene.moment) all)
  pub taking : IsTaking t
  pub standing : Stands t.scene left t.drafting.draft
