-- What a draft has come to, where a job raised an error.
use Rattle.std.proofs.Common.{◌≡◌, ◌+◌, ℕ, true, List, Option, None, Some, ap, ◌∙◌, arith}
use Rattle.std.proofs.lemmas.Bool.{and_from}
use Rattle.job_states.specs.Ranges.{is_row, is_count, are_counts, are_counters, is_in_range}
use Rattle.job_states.specs.declared.answer.Answer.{Answer}
use Rattle.job_states.specs.declared.answer.Answer.TheVariants as answer
use Rattle.job_states.specs.declared.answer.Outcome.TheVariants as outcome
use Rattle.job_states.specs.declared.job.JobRow.{JobRow}
use Rattle.job_states.specs.declared.transition.Counters.{Counters}
use Rattle.job_states.specs.declared.transition.Put.TheVariants.{Ready}
use Rattle.job_states.specs.declared.transition.Transition.TheVariants.{Enqueue, Fail}
use Rattle.queue_config.specs.declared.retry.Act.TheVariants as act
use Rattle.queue_model.specs.Map as map
use Rattle.queue_model.specs.declared.Job.{Job}
use Rattle.transition_table.specs.Seen.{IsFit}
use Rattle.transition_table.proofs.InRange.{fit}
use Rattle.plan_model.specs.Drafts.{begin, end}
use Rattle.plan_model.specs.GoodScene.{IsGoodScene}
use Rattle.plan_model.specs.JobCommands.{failing, message_of, raise_by}
use Rattle.plan_model.specs.Scenes.{Scene}
use Rattle.plan_model.proofs.CountLemmas.{count_small, counts_fit}
use Rattle.plan_drafts.specs.Drafting.{Drafting, GivesDraft}
use Rattle.plan_scenes.specs.Begun.{ComesTo, begun}
use Rattle.claim_plans.specs.Left.{counters_left}

row_counts : (row : JobRow) → is_row row ≡ true → are_counts row.counts ≡ true
row_counts row h = grind arith

new_in_range : (row : JobRow) → is_row row ≡ true → is_in_range (Enqueue row (Ready None)) ≡ true
new_in_range row h = grind (arith, h)

module _ (s : Scene) (good : IsGoodScene s) (id : ℕ) (j : Job) (found : map.get s.book.world.jobs id ≡ Some j) where
  row_fits : is_row j.row ≡ true
  row_fits = (good.book.world.jobs id j found).row

  -- what an error leaves is within its ranges
  pub counters_fit : (error : List ℕ) → are_counters (Some (counters_left s error j)) ≡ true
  counters_fit error = and_from (is_count (counters_left s error j).executions) (are_counts (counters_left s error j).counts)
      (count_small (j.row.executions + 1)) (counts_fit s.settings good.settings j.row.class error j.row.counts (row_counts j.row row_fits))

  -- and so is the limit that the job is under
  pub limit_fits : IsFit j.row.limited
  limit_fits = fit (Enqueue j.row (Ready None)) (new_in_range j.row row_fits)

-- the job has failed
module _ (s : Scene) (error message : List ℕ) (j : Job) (old new : Drafting) (is : old ≡ begun s) where
  pub fail_comes : (kept : List ℕ) (after : Counters) (unblocked : Option ℕ) (given : Answer) → kept ≡ message_of message → after ≡ counters_left s error j
      → GivesDraft old new (end old.moment j.row.id (Fail j.row.id error kept (Some after)) old.draft) unblocked → given ≡ answer.Raised j.row.id None outcome.Failed unblocked
      → ComesTo s (raise_by s error message j (begin s) act.Fail) new given
  fail_comes kept after unblocked given kept_is after_is gives given_is = record {
    begun = ap (λ d. d.begun) gives.draft ∙ ap (λ d. d.begun) is;
    moment = ap (λ d. d.moment) gives.draft ∙ ap (λ d. d.moment) is;
    draft = ap (λ d. d.draft) gives.draft ∙ ap (λ e. e.0) ended;
    answered = given_is ∙ ap (λ u. answer.Raised j.row.id None outcome.Failed u) (gives.value_is ∙ ap (λ e. e.1) ended);
  }
    where
      ended : end old.moment j.row.id (Fail j.row.id error kept (Some after)) old.draft ≡ end s.moment j.row.id (failing s error message j) (begin s)
      ended = λ i. end (is i).moment j.row.id (Fail j.row.id error (kept_is i) (Some (after_is i))) (is i).draft
