-- Causes that stand in order, and what comes of a command by them.
use Rattle.std.proofs.Common.{◌≡◌, List, [], ◌∷◌, ◌++◌, Option, None, Some, is_some, Result, Ok, Err, ap, sym, ◌∙◌, refl, subst}
use Rattle.std.proofs.lemmas.Bool.{true≢false}
use Rattle.job_states.specs.Judged.{Gives}
use Rattle.job_states.specs.declared.answer.Answer.{Answer}
use Rattle.job_states.specs.declared.answer.Refused.{Refused}
use Rattle.job_states.specs.declared.answer.Refused.TheVariants.{NoMemory}
use Rattle.plan_drafts.specs.Drafting.{Drafting, IsBegunIn}
use Rattle.plan_model.specs.Planned.{Drafted, drafted, plan_with, planned, unless_met}
use Rattle.plan_model.specs.Plans.{Plan, IsTold}
use Rattle.plan_model.specs.Refusals.{first_met, numbers_spent, spent}
use Rattle.plan_model.specs.Scenes.{Scene}
use Rattle.plan_scenes.specs.Begun.{ComesTo}

pub no_more : (before after : List (Option Refused)) → first_met before ≡ None → first_met (before ++ after) ≡ first_met after
no_more [] after e = refl
no_more (None ∷ before) after e = no_more before after e
no_more (Some refused ∷ before) after e = absurd (true≢false (ap is_some e))

pub already : (before after : List (Option Refused)) (first : Refused) → first_met before ≡ Some first → first_met (before ++ after) ≡ Some first
already [] after first e = absurd (true≢false (sym (ap is_some e)))
already (None ∷ before) after first e = already before after first e
already (Some refused ∷ before) after first e = e

pub met : (s : Scene) (causes : List (Option Refused)) (made : Drafted) (first : Refused) → first_met causes ≡ Some first → planned s causes made ≡ Err first
met s causes made first e = ap (λ o. unless_met o (plan_with s made)) (already causes (numbers_spent s made.draft ∷ []) first e)

pub none_met : (s : Scene) (causes : List (Option Refused)) (made : Drafted) → first_met causes ≡ None → planned s causes made ≡ planned s [] made
none_met s causes made e = ap (λ o. unless_met o (plan_with s made)) (no_more causes (numbers_spent s made.draft ∷ []) e)

pub accepted : (s : Scene) (causes : List (Option Refused)) (made : Drafted) → first_met causes ≡ None → numbers_spent s made.draft ≡ None → planned s causes made ≡ Ok (plan_with s made)
accepted s causes made e unspent = none_met s causes made e ∙ ap (λ o. unless_met (first_met (o ∷ [])) (plan_with s made)) unspent

module _ (s : Scene) (made : Drafted) (d : Drafting) (answer : Answer) (comes : ComesTo s made d answer) where
  made_is : drafted d.draft answer ≡ made
  made_is = λ i. drafted (comes.draft i) (comes.answered i)

  begun_there : IsBegunIn s d
  begun_there = record { given = sym (ap (λ b. b.given) comes.begun); moment = sym comes.moment }

  pub finished : (causes : List (Option Refused)) (result : Result Plan Refused) → first_met causes ≡ None → ((t : Scene) → IsBegunIn t d → Gives NoMemory result (planned t [] (drafted d.draft answer))) → Gives NoMemory result (planned s causes made)
  finished causes result none gives =
      subst (λ given. Gives NoMemory result given) (ap (planned s []) made_is ∙ sym (none_met s causes made none)) (gives s begun_there)

  -- what is told of its plan in its own scene is told of it in each scene that is like it
  module _ (t : Scene) (is : IsBegunIn t d) where
    same_given : s.book.given ≡ t.book.given
    same_given = sym (ap (λ b. b.given) comes.begun) ∙ sym is.given

    pub still_unspent : numbers_spent t d.draft ≡ None → numbers_spent s made.draft ≡ None
    still_unspent none =
        (λ i. first_met (spent (same_given i).job (sym comes.draft i).given.job ∷ spent (same_given i).pid (sym comes.draft i).given.pid ∷ spent (same_given i).generation (sym comes.draft i).given.generation ∷ []))
        ∙ none

    pub told_there : IsTold (plan_with s made) → IsTold (plan_with t (drafted d.draft answer))
    told_there told =
        subst IsTold (ap (plan_with s) (sym made_is) ∙ (λ i. record { tx = record { moment = (sym comes.moment ∙ sym is.moment) i; steps = d.draft.steps }; rows = (plan_with s (drafted d.draft answer)).rows; answer = answer })) told
