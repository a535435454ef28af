-- A draft that has come to what its command does.
use Rattle.std.proofs.Common.{◌≡◌, ℕ, List, [], ◌∷◌, ◌++◌, map, fold, Option, None, Some, Ok, Err, refl, sym, ap, ◌∙◌, subst}
use Rattle.std.specs.Prelude.{is_none}
use Rattle.job_states.specs.declared.answer.Answer.{Answer}
use Rattle.job_states.specs.declared.answer.Answer.TheVariants as answer
use Rattle.job_states.specs.declared.answer.Made.{Made}
use Rattle.job_states.specs.declared.answer.Outcome.{Outcome}
use Rattle.job_states.specs.declared.answer.Refused.{Refused}
use Rattle.job_states.specs.declared.answer.Refused.TheVariants.{NoSuchJob}
use Rattle.job_states.specs.declared.command.Command.TheVariants as command
use Rattle.job_states.specs.declared.command.NewJob.{NewJob}
use Rattle.job_states.specs.declared.transition.Put.{Put}
use Rattle.job_states.specs.declared.transition.Transition.TheVariants.{Retry}
use Rattle.plan_drafts.specs.Drafting.{Drafting, GivesDraft, with_draft}
use Rattle.queue_model.specs.Map as finite
use Rattle.queue_model.specs.declared.Job.{Job}
use Rattle.plan_model.specs.Drafts.{Draft, begin, enqueue, meets, outcome_of, push}
use Rattle.plan_model.specs.GoodScene.{IsGoodScene}
use Rattle.plan_model.specs.JobCommands.{and_made, does, enqueue_all, enqueue_new, retry}
use Rattle.plan_model.specs.Planned.{answering, drafted}
use Rattle.plan_model.specs.Refusals.{first_met, no_such_job, refuse}
use Rattle.plan_model.specs.Scenes.{Scene}
use Rattle.plan_model.proofs.Raising.{with_job_found}
use Rattle.plan_scenes.specs.Begun.{ComesTo, begun}
use Rattle.plan_scenes.specs.Causes.{or_refused, unless}
use Rattle.plan_scenes.proofs.Causes.{no_more}
use Rattle.job_plans.specs.New.{enqueue_one, new_of}
use Rattle.job_plans.specs.declared.enqueue.New.{New}

-- ---- causes that are met, or aren't

pub accepted : {X : Type 0} (o : Option Refused) (x y : X) → or_refused o x ≡ Ok y → (o ≡ None) × (x ≡ y)
accepted None x y e = (refl, cc)
accepted (Some refused) x y e = cc

pub refused_by : {X : Type 0} (o : Option Refused) (x : X) (refused : Refused) → or_refused o x ≡ Err refused → o ≡ Some refused
refused_by None x refused e = cc
refused_by (Some other) x refused e = cc

pub unmet : (o : Option Refused) → Ok tt ≡ unless o → o ≡ None
unmet None e = refl
unmet (Some refused) e = cc

pub met : (o : Option Refused) (refused : Refused) → Err refused ≡ unless o → o ≡ Some refused
met None refused e = cc
met (Some other) refused e = cc

-- a cause that isn't met leaves it to the rest
pub passing : (o : Option Refused) (rest : List (Option Refused)) → o ≡ None → first_met (o ∷ rest) ≡ first_met rest
passing o rest e = ap (λ c. first_met (c ∷ rest)) e

alone : (o : Option Refused) → first_met (o ∷ []) ≡ o
alone None = refl
alone (Some refused) = refl

-- none of these causes is met, and so the last one decides
pub last : (causes : List (Option Refused)) (o p : Option Refused) → first_met causes ≡ None → o ≡ p → first_met (causes ++ o ∷ []) ≡ p
last causes o p e f = no_more causes (o ∷ []) e ∙ alone o ∙ f

pub job_there : (s : Scene) (id : ℕ) (j : Job) → finite.get s.book.world.jobs id ≡ Some j → no_such_job s id ≡ None
job_there s id j found = ap (λ o. refuse (is_none o) (NoSuchJob id s.book.world.numbers.job)) found

-- ---- drafts

module _ {A : Type 0} (s : Scene) (d : Drafting) (given : Drafting → Draft × A) (value : A) (answer : A → Answer) where
  pub comes : (old : Drafting) → old ≡ begun s → GivesDraft old d (given old) value → ComesTo s (answering (given (begun s)) answer) d (answer value)
  comes old e = subst (λ o. GivesDraft o d (given o) value → ComesTo s (answering (given (begun s)) answer) d (answer value)) (sym e)
      (λ gives. record {
        begun = ap (λ b. b.begun) gives.draft;
        moment = ap (λ b. b.moment) gives.draft;
        draft = ap (λ b. b.draft) gives.draft;
        answered = ap answer gives.value_is;
      })

-- ---- many jobs

each_is : (s : Scene) (news : List NewJob) (done : Draft × List Made) → fold (enqueue_one s.moment) done (map (new_of s) news) ≡ fold (λ done new. and_made done.1 (enqueue_new s new done.0)) done news
each_is s [] done = refl
each_is s (new ∷ news) done = each_is s news (and_made done.1 (enqueue_new s new done.0))

pub all_is : (s : Scene) (news : List NewJob) (d : Draft) → fold (enqueue_one s.moment) (d, []) (map (new_of s) news) ≡ enqueue_all s news d
all_is s news d = each_is s news (d, [])

-- a draft after one more job is still the one from before, with another draft
pub still_with : (first before after : Drafting) (now : Draft) → before ≡ with_draft first before.draft → after ≡ with_draft before now → after ≡ with_draft first after.draft
still_with first before after now e f = f ∙ ap (λ d. with_draft d now) e ∙ ap (with_draft first) (sym (ap (λ d. d.draft) f))

pub one_more : (first before after : Drafting) (new : New) (rest : List New) (made grown : List Made) (value : Made) → before ≡ with_draft first before.draft → GivesDraft before after (enqueue before.moment new.row new.at before.draft) value → grown ≡ made ++ value ∷ []
    → fold (enqueue_one first.moment) (after.draft, grown) rest ≡ fold (enqueue_one first.moment) (before.draft, made) (new ∷ rest)
one_more first before after new rest made grown value e gives more =
    let moment = ap (λ d. d.moment) e in
    let same : (after.draft, grown) ≡ enqueue_one first.moment (before.draft, made) new =
    (λ i. (ap (λ d. d.draft) gives.draft i, (more ∙ ap (λ v. made ++ v ∷ []) gives.value_is) i))
    ∙ ap (λ m. enqueue_one m (before.draft, made) new) moment in
    ap (λ done. fold (enqueue_one first.moment) done rest) same

-- ---- a retry

pub retried : (s : Scene) (id : ℕ) (j : Job) (old d : Drafting) (put : Put) (state : Outcome) → old ≡ begun s → IsGoodScene s → finite.get s.book.world.jobs id ≡ Some j → put ≡ meets old.draft old.moment j.row.limited
    → d ≡ with_draft old (push old.moment (Retry id put) old.draft) → state ≡ outcome_of put → ComesTo s (does s (command.Retry id)) d (answer.Retried id state)
retried s id j old d put state e good found is pushed state_is =
    let own : j.row.id ≡ id = (good.book.world.jobs id j found).own_number in
    let here : put ≡ meets (begin s) s.moment j.row.limited = is ∙ ap (λ o. meets o.draft o.moment j.row.limited) e in
    let now : d ≡ with_draft (begun s) (push s.moment (Retry id put) (begin s)) = pushed ∙ ap (λ o. with_draft o (push o.moment (Retry id put) o.draft)) e in
    subst (λ m. ComesTo s m d (answer.Retried id state)) (sym (with_job_found s id (λ x. drafted (retry s.moment x (begin s)) (answer.Retried id (outcome_of (meets (begin s) s.moment x.row.limited)))) j found)) (record {
      begun = ap (λ b. b.begun) now;
      moment = ap (λ b. b.moment) now;
      draft = ap (λ b. b.draft) now ∙ (λ i. push s.moment (Retry (sym own i) (here i)) (begin s));
      answered = ap (answer.Retried id) (state_is ∙ ap outcome_of here);
    })
