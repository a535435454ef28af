-- Drafts that have come to what a command does.
use Rattle.std.proofs.Common.{◌≡◌, ℕ, List, [], ◌∷◌, length, Option, None, ap, sym, ◌∙◌, refl}
use Rattle.job_states.specs.Length.{is_name}
use Rattle.std.specs.Prelude.{IsTrue}
use Rattle.job_states.specs.declared.answer.Answer.{Answer}
use Rattle.job_states.specs.declared.answer.Answer.TheVariants as answer
use Rattle.job_states.specs.declared.command.Command.{Command}
use Rattle.job_states.specs.declared.command.Command.TheVariants as command
use Rattle.job_states.specs.declared.command.Kind.{Kind}
use Rattle.job_states.specs.declared.transition.Transition.TheVariants.{Register, Beat, Deregister}
use Rattle.queue_model.specs.declared.Job.{Job}
use Rattle.queue_model.specs.declared.Numbers.{Numbers}
use Rattle.plan_drafts.specs.Drafting.{Drafting, with_draft}
use Rattle.plan_model.specs.Drafts.{Draft, push, each_free}
use Rattle.plan_model.specs.GoodScene.{IsWithinRanges}
use Rattle.plan_model.specs.JobCommands.{counting}
use Rattle.plan_model.specs.Planned.{Drafted}
use Rattle.plan_model.specs.Refusals.{first_met, no_room, no_such_process}
use Rattle.plan_model.specs.Scenes.{Scene}
use Rattle.plan_model.specs.UpkeepCommands.{claimed_by, does, refusals, release_all}
use Rattle.plan_scenes.specs.Begun.{begun}
use Rattle.upkeep_plans.specs.Done.{IsDone}
use Rattle.upkeep_plans.specs.Taking as takings
use Rattle.upkeep_plans.specs.Taking.{Taking, with_cases}

pub comes_to : (s : Scene) (c : Command) (e : Drafting) (reply : Answer) → IsWithinRanges s c → first_met (refusals s c) ≡ None → e ≡ with_draft (begun s) (does s c).draft → reply ≡ (does s c).answer → IsDone s e reply c
comes_to s c e reply ranges unmet drafted answered = record {
  ranges = ranges;
  unmet = unmet;
  comes = record { begun = ap (λ (d : Drafting). d.begun) drafted; moment = ap (λ (d : Drafting). d.moment) drafted; draft = ap (λ (d : Drafting). d.draft) drafted; answered = answered };
}

module _ (s : Scene) (d e : Drafting) (begins : d ≡ begun s) where
  pub registered : (kind : Kind) (name : List ℕ) (given : Numbers) → IsTrue (is_name name) → no_room s ≡ None → given ≡ d.draft.given → e ≡ with_draft d (push d.moment (Register given.pid kind name) d.draft) → IsDone s e (answer.Registered given.pid) (command.Register kind name)
  registered kind name given named room is at =
      let next : given.pid ≡ s.book.given.pid = ap (λ (n : Numbers). n.pid) is ∙ ap (λ (d : Drafting). d.draft.given.pid) begins in
      comes_to s (command.Register kind name) e (answer.Registered given.pid) named (ap (λ o. first_met (o ∷ [])) room)
      (at ∙ ap (λ n. with_draft d (push d.moment (Register n kind name) d.draft)) next ∙ ap (λ (d : Drafting). with_draft d (push d.moment (Register s.book.given.pid kind name) d.draft)) begins)
      (ap answer.Registered next)

  pub beaten : (pid : ℕ) → no_such_process s pid ≡ None → e ≡ with_draft d (push d.moment (Beat pid) d.draft) → IsDone s e (answer.Beaten pid) (command.Beat pid)
  beaten pid there at = comes_to s (command.Beat pid) e (answer.Beaten pid) tt (ap (λ o. first_met (o ∷ [])) there)
      (at ∙ ap (λ (d : Drafting). with_draft d (push d.moment (Beat pid) d.draft)) begins) refl

  pub deregistered : (pid count : ℕ) (claims : List Job) → no_such_process s pid ≡ None → claims ≡ claimed_by s.book.world pid
      → e ≡ with_draft d (push d.moment (Deregister pid) (release_all d.moment claims d.draft)) → count ≡ length claims → IsDone s e (answer.Deregistered pid count) (command.Deregister pid)
  deregistered pid count claims there are at counts = comes_to s (command.Deregister pid) e (answer.Deregistered pid count) tt (ap (λ o. first_met (o ∷ [])) there)
      (at ∙ (λ i. with_draft (begins i) (push (begins i).moment (Deregister pid) (release_all (begins i).moment (are i) (begins i).draft))))
      (ap (answer.Deregistered pid) (counts ∙ ap length are))

-- the cases of a command are taken
pub counted : (s : Scene) (c : Command) (most : ℕ) (cases : List (Draft → Option Draft)) (t u : Taking) (d : Drafting) (n : ℕ) → IsWithinRanges s c → first_met (refusals s c) ≡ None → does s c ≡ counting (each_free s most cases)
    → t ≡ takings.begun s most → u ≡ with_cases t cases → d ≡ u.drafting → n ≡ u.taken → IsDone s d (answer.Count n) c
counted s c most cases t u d n ranges unmet does_so begins takes drafted counts =
    let all : u ≡ with_cases (takings.begun s most) cases = takes ∙ ap (λ (v : Taking). with_cases v cases) begins in
    comes_to s c d (answer.Count n) ranges unmet
    (drafted ∙ ap (λ (v : Taking). v.drafting) all ∙ ap (λ (made : Drafted). with_draft (begun s) made.draft) (sym does_so))
    (ap answer.Count (counts ∙ ap (λ (v : Taking). v.taken) all) ∙ ap (λ (made : Drafted). made.answer) (sym does_so))
