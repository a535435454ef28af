-- A scene of a draft, the numbers that it gave, and its plan.
use Rattle.std.proofs.Common.{◌≡◌, ℕ, Bool, true, false, T, List, [], ◌∷◌, Option, None, sym, ◌∙◌, refl, subst}
use Rattle.std.specs.FinMap.Entries.{is_sorted}
use Rattle.job_states.specs.RowOrder.{row_cmp}
use Rattle.job_states.specs.declared.answer.Answer.{Answer}
use Rattle.job_states.specs.declared.answer.Refused.{Refused}
use Rattle.job_states.specs.declared.row.Mode.{Mode}
use Rattle.job_states.specs.declared.row.Row.{Row}
use Rattle.job_states.specs.declared.transition.Transition.{Transition}
use Rattle.queue_model.specs.Map as map
use Rattle.queue_model.specs.declared.Numbers.{Numbers}
use Rattle.plan_model.specs.Planned.{drafted, plan_with}
use Rattle.plan_model.specs.Plans.{IsTold}
use Rattle.plan_model.specs.Refusals.{first_met, numbers_spent, spent}
use Rattle.plan_model.specs.Rows.{in_order}
use Rattle.plan_model.specs.Scenes.{Scene}
use Rattle.plan_model.proofs.RowLemmas.{rows_rise}
use Rattle.book_core.specs.GoodPlan.{IsGoodPlan, plan}
use Rattle.plan_drafts.specs.Drafting.{Drafting, IsBegunIn}

-- some scene in which the draft was begun
pub scene_of : Drafting → Scene
scene_of d = record {
  book = record { world = d.begun.world; open_plans = map.empty; given = d.begun.given };
  settings = record {
    classes = [];
    dispatcher = record { batch_size = 1; polling_ms = 1; maintenance = 1 };
    errors = [];
    jobs = record { kept_max = 1; clear_after = 0 };
    processes = record { heartbeat = 1; alive_threshold = 1 };
    tasks = [];
    workers = [];
  };
  moment = d.moment;
}

pub begun_there : (d : Drafting) → IsBegunIn (scene_of d) d
unfolding scene_of
begun_there d = record { given = refl; moment = refl }

abbrev pub spent_since : Numbers → Numbers → Option Refused
spent_since first given = first_met (spent first.job given.job ∷ spent first.pid given.pid ∷ spent first.generation given.generation ∷ [])

pub spent_in : (s : Scene) (d : Drafting) (first given : Numbers) → IsBegunIn s d → d.begun.given ≡ first → d.draft.given ≡ given → numbers_spent s d.draft ≡ spent_since first given
spent_in s d first given is f g = λ i. spent_since ((is.given ∙ f) i) (g i)

is_true : (b : Bool) → T b → b ≡ true
is_true true t = refl
is_true false t = absurd t

-- what is told of its plan in each of its scenes is told of it
pub good_plan : (d : Drafting) (answer : Answer) → ((s : Scene) → IsBegunIn s d → numbers_spent s d.draft ≡ None → IsTold (plan_with s (drafted d.draft answer))) → numbers_spent (scene_of d) d.draft ≡ None
    → (m : ℕ) (steps : List Transition) (rows : List (Row × Mode)) → m ≡ d.moment → steps ≡ d.draft.steps → rows ≡ in_order d.draft.rows → IsGoodPlan (plan (record { moment = m; steps = steps }) rows answer)
unfolding scene_of
good_plan d answer told none m steps rows is_m is_steps is_rows =
    let same : plan_with (scene_of d) (drafted d.draft answer) ≡ plan (record { moment = m; steps = steps }) rows answer = (λ i. plan (record { moment = sym is_m i; steps = sym is_steps i }) (sym is_rows i) answer) in
    subst IsGoodPlan same (record { told = told (scene_of d) (begun_there d) none; in_order = is_true (is_sorted row_cmp (in_order d.draft.rows)) (rows_rise d.draft.rows) })
