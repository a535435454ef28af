-- The causes of many jobs, one job after another.
use Rattle.std.proofs.Common.{◌≡◌, ◌+◌, ℕ, List, [], ◌∷◌, ◌++◌, length, map, Option, None, Some, Ok, Err, refl, sym, ap, ◌∙◌, append_assoc}
use Rattle.std.proofs.lemmas.List.{length_push}
use Rattle.job_states.specs.declared.answer.Refused.{Refused}
use Rattle.job_states.specs.declared.command.NewJob.{NewJob}
use Rattle.plan_model.specs.JobCommands.{of_jobs}
use Rattle.plan_model.specs.Refusals.{first_met, key_refused, unknown_class}
use Rattle.plan_model.specs.Scenes.{Scene}
use Rattle.plan_scenes.specs.Causes.{or_refused}
use Rattle.job_plans.specs.New.{new_of}
use Rattle.job_plans.specs.declared.enqueue.New.{New}
use Rattle.plan_scenes.proofs.Causes.{already, no_more}

module _ {X : Type 0} (s : Scene) (index : ℕ) (new : NewJob) (rest : List NewJob) (x : X) where
  -- the job at this place is accepted, and the rest decide
  pub passed : (y : X) → or_refused (first_met (of_jobs s index (new ∷ []))) x ≡ Ok y → (first_met (of_jobs s index (new ∷ rest)) ≡ first_met (of_jobs s (index + 1) rest)) × (x ≡ y)
  passed y e = by (first_met (of_jobs s index (new ∷ []))) refl e
    where
      by : (o : Option Refused) → first_met (of_jobs s index (new ∷ [])) ≡ o → or_refused o x ≡ Ok y → (first_met (of_jobs s index (new ∷ rest)) ≡ first_met (of_jobs s (index + 1) rest)) × (x ≡ y)
      by None is f = (no_more (unknown_class s index new ∷ key_refused s index new ∷ []) (of_jobs s (index + 1) rest) is, cc)
      by (Some refused) is f = cc

  -- it is refused
  pub refused_here : (refused : Refused) → or_refused (first_met (of_jobs s index (new ∷ []))) x ≡ Err refused → first_met (of_jobs s index (new ∷ rest)) ≡ Some refused
  refused_here refused e = by (first_met (of_jobs s index (new ∷ []))) refl e
    where
      by : (o : Option Refused) → first_met (of_jobs s index (new ∷ [])) ≡ o → or_refused o x ≡ Err refused → first_met (of_jobs s index (new ∷ rest)) ≡ Some refused
      by None is f = cc
      by (Some other) is f = already (unknown_class s index new ∷ key_refused s index new ∷ []) (of_jobs s (index + 1) rest) refused cc

-- what was found so far, and what is left
pub record AreFound (s : Scene) (news left : List NewJob) (found : List New) : Type 0 where
  pub rows : found ++ map (new_of s) left ≡ map (new_of s) news
  pub causes : first_met (of_jobs s (length found) left) ≡ first_met (of_jobs s 0 news)

module _ (s : Scene) (news rest : List NewJob) (new : NewJob) (found : List New) (so_far : AreFound s news (new ∷ rest) found) where
  pub one_more : (row : New) → or_refused (first_met (of_jobs s (length found) (new ∷ []))) (new_of s new) ≡ Ok row → AreFound s news rest (found ++ row ∷ [])
  one_more row e =
      let is = passed s (length found) new rest (new_of s new) row e in
      record {
        rows = append_assoc found (row ∷ []) (map (new_of s) rest) ∙ ap (λ r. found ++ r ∷ map (new_of s) rest) (sym is.1) ∙ so_far.rows;
        causes = ap (λ n. first_met (of_jobs s n rest)) (length_push found row) ∙ sym is.0 ∙ so_far.causes;
      }

  -- one is refused, and so all are
  pub all_refused : {Y : Type 0} (y : Y) (refused : Refused) → or_refused (first_met (of_jobs s (length found) (new ∷ []))) (new_of s new) ≡ Err refused → or_refused (first_met (of_jobs s 0 news)) y ≡ Err refused
  all_refused y refused e = ap (λ o. or_refused o y) (sym so_far.causes ∙ refused_here s (length found) new rest (new_of s new) refused e)
