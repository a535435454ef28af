-- From an accepted plan to what holds of its scene, and from its draft to the plan.
use Rattle.std.proofs.Common.{◌≡◌, ◌≤◌, ◌+◌, ℕ, Bool, true, false, not, List, [], ◌∷◌, ◌++◌, Option, None, Some, Result, Ok, Err, is_some, is_none, ap, sym, ◌∙◌, refl, subst, arith}
use Rattle.std.proofs.lemmas.Bool.{true≢false}
use Rattle.job_states.specs.Moment.{IsMoment, is_moment}
use Rattle.job_states.specs.States.{stage_of}
use Rattle.job_states.specs.declared.answer.Refused.{Refused}
use Rattle.job_states.specs.declared.answer.Refused.TheVariants.{WrongState}
use Rattle.job_states.specs.declared.job.Stage.{Stage}
use Rattle.queue_model.specs.Footprints.{new_claims}
use Rattle.queue_model.specs.Chain.{◌>>=◌, ◌>>◌, when}
use Rattle.queue_model.specs.Map as map
use Rattle.queue_model.specs.Replay.{steps}
use Rattle.queue_model.specs.declared.Job.{Job}
use Rattle.plan_model.specs.Books.{claims_kept}
use Rattle.plan_model.specs.Drafts.{begin}
use Rattle.plan_model.specs.GoodBook.{MayOpen}
use Rattle.plan_model.specs.GoodScene.{IsGoodScene}
use Rattle.plan_model.specs.Planned.{Drafted, planned, plan_with, unless_met}
use Rattle.plan_model.specs.Plans.{Plan, jobs_named, jobs_handed}
use Rattle.plan_model.specs.Refusals.{first_met, refuse, no_such_job, wrong_state, numbers_spent}
use Rattle.plan_model.specs.Scenes.{Scene}
use Rattle.plan_model.proofs.DraftLemmas.{IsDraftOf, Brings, claims_counted}
use Rattle.plan_model.proofs.RowLemmas.{planned_in_order}

-- ---- refusals that didn't come

abbrev is_Ok : {A B : Type 0} → Result A B → Bool
is_Ok (Ok x) = true
is_Ok (Err e) = false

abbrev or_else : Plan → Result Plan Refused → Plan
or_else p (Ok q) = q
or_else p (Err e) = p

accepted_by : (o : Option Refused) (p plan : Plan) → unless_met o p ≡ Ok plan → (o ≡ None) × (p ≡ plan)
accepted_by None p plan e = (refl, ap (or_else p) e)
accepted_by (Some refused) p plan e = absurd (true≢false (sym (ap is_Ok e)))

pub accepted : (s : Scene) (causes : List (Option Refused)) (made : Drafted) (plan : Plan) → planned s causes made ≡ Ok plan → (first_met (causes ++ numbers_spent s made.draft ∷ []) ≡ None) × (plan_with s made ≡ plan)
accepted s causes made plan e = accepted_by (first_met (causes ++ numbers_spent s made.draft ∷ [])) (plan_with s made) plan e

pub unmet : (c : Option Refused) (cs : List (Option Refused)) → first_met (c ∷ cs) ≡ None → (c ≡ None) × (first_met cs ≡ None)
unmet None cs e = (refl, e)
unmet (Some refused) cs e = absurd (true≢false (ap is_some e))

pub unrefused : (b : Bool) (refused : Refused) → refuse b refused ≡ None → b ≡ false
unrefused true refused e = absurd (true≢false (ap is_some e))
unrefused false refused e = refl

missing_not : {A : Type 0} (o : Option A) → is_none o ≡ false → (x : A) × (o ≡ Some x)
missing_not None e = absurd (true≢false e)
missing_not (Some x) e = (x, refl)

pub is_there : {A : Type 0} (o : Option A) → is_none o ≡ false → is_some o ≡ true
is_there None e = absurd (true≢false e)
is_there (Some x) e = refl

pub job_there : (s : Scene) (id : ℕ) → no_such_job s id ≡ None → (j : Job) × (map.get s.book.world.jobs id ≡ Some j)
job_there s id e = missing_not (map.get s.book.world.jobs id) (unrefused _ _ e)

not_false : (b : Bool) → not b ≡ false → b ≡ true
not_false true e = refl
not_false false e = absurd (true≢false e)

pub right_state : (s : Scene) (id : ℕ) (passes : Option Stage → Bool) (j : Job) → map.get s.book.world.jobs id ≡ Some j → wrong_state s id passes ≡ None → passes (Some (stage_of j.state)) ≡ true
right_state s id passes j found e =
    not_false (passes (Some (stage_of j.state))) (unrefused _ _ (subst (λ o. (o >>= λ x. refuse (not (passes (Some (stage_of x.state)))) (WrongState id (stage_of x.state))) ≡ None) found e))

-- ---- drafts

pub moment_is : (m : ℕ) → IsMoment m → is_moment m ≡ true
moment_is m h = grind (arith, h)

pub begun : (s : Scene) → IsDraftOf s.book.world s.moment (begin s)
begun s = record { legal = refl; covered = tt }

pub begins_empty : (s : Scene) → Brings 0 0 (begin s)
begins_empty s = record { made_is = refl; claimed_is = refl }

module _ (s : Scene) (seat : ℕ) (good : IsGoodScene s) (vacant : map.get s.book.open_plans seat ≡ None) (made : Drafted) (plan : Plan) (is : plan_with s made ≡ plan) (d : IsDraftOf s.book.world s.moment made.draft) where
  -- a draft of legal transitions may be opened, where it brings what its answer tells
  pub opens : Brings (jobs_named made.answer) (jobs_handed made.answer) made.draft → ((pid : ℕ) → claims_kept s.book pid + new_claims pid made.draft.steps ≤ 500) → MayOpen s.book seat plan
  opens told few = subst (MayOpen s.book seat) is (record {
    vacant = vacant;
    legal = (
      made.draft.world,
      planned_in_order s.book.world made.draft.world (record { moment = s.moment; steps = made.draft.steps }) made.draft.rows (record {
        legal = ap (λ b. when b >> steps s.book.world s.moment made.draft.steps) (moment_is s.moment good.moment) ∙ d.legal;
        covered = d.covered;
      }),
    );
    told = record { made = told.made_is; claimed = told.claimed_is };
    few_claims = few;
  })

  -- one without claims
  pub opens_unclaimed : Brings (jobs_named made.answer) 0 made.draft → jobs_handed made.answer ≡ 0 → MayOpen s.book seat plan
  opens_unclaimed told none = opens
      (record { made_is = told.made_is; claimed_is = told.claimed_is ∙ sym none })
      (λ pid. let few = good.book.few_claims pid in let no_more = claims_counted pid made.draft.steps in let no_claims = told.claimed_is in omega (arith, few, no_more, no_claims))
