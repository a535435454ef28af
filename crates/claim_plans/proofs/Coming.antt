-- What a draft has come to, where a claimed job is done or released.
use Rattle.std.proofs.Common.{◌≡◌, ℕ, Option, ap, ◌∙◌}
use Rattle.job_states.specs.declared.answer.Answer.TheVariants as answer
use Rattle.job_states.specs.declared.command.Command.TheVariants as command
use Rattle.job_states.specs.declared.transition.Transition.TheVariants.{Done, Release}
use Rattle.plan_drafts.specs.Drafting.{Drafting, GivesDraft, with_draft}
use Rattle.plan_model.specs.Drafts.{begin, end, push}
use Rattle.plan_model.specs.JobCommands.{does}
use Rattle.plan_model.specs.Scenes.{Scene}
use Rattle.plan_scenes.specs.Begun.{ComesTo, begun}

module _ (s : Scene) (pid id : ℕ) (old new : Drafting) (is : old ≡ begun s) where
  pub done_comes : (job : ℕ) (unblocked : Option ℕ) → job ≡ id → GivesDraft old new (end s.moment job (Done job) (begin s)) unblocked → ComesTo s (does s (command.Done pid id)) new (answer.Done id unblocked)
  done_comes job unblocked same gives = record {
    begun = ap (λ d. d.begun) gives.draft ∙ ap (λ d. d.begun) is;
    moment = ap (λ d. d.moment) gives.draft ∙ ap (λ d. d.moment) is;
    draft = ap (λ d. d.draft) gives.draft ∙ ap (λ n. (end s.moment n (Done n) (begin s)).0) same;
    answered = ap (answer.Done id) (gives.value_is ∙ ap (λ n. (end s.moment n (Done n) (begin s)).1) same);
  }

  pub release_comes : new ≡ with_draft old (push old.moment (Release id) old.draft) → ComesTo s (does s (command.Release pid id)) new (answer.Released id)
  release_comes after = record {
    begun = ap (λ d. d.begun) after ∙ ap (λ d. d.begun) is;
    moment = ap (λ d. d.moment) after ∙ ap (λ d. d.moment) is;
    draft = ap (λ d. d.draft) after ∙ ap (λ d. push d.moment (Release id) d.draft) is;
    answered = λ _. answer.Released id;
  }
