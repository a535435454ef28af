use Rattle.std.proofs.Common.{◌≡◌, ℕ, List, [], ◌∷◌, Option, None, Some, true, false, is_some, refl, ap, sym, ◌∙◌, subst, inl, arith}
use Rattle.std.specs.Prelude.{is_none}
use Rattle.std.proofs.lemmas.Bool.Decides.{nat_tests}
use Rattle.job_states.specs.Length.{IsName, is_name}
use Rattle.job_states.specs.declared.answer.Answer.TheVariants.{Paused}
use Rattle.job_states.specs.declared.row.Mode.TheVariants.{Alone}
use Rattle.job_states.specs.declared.row.Row.TheVariants.{Queue}
use Rattle.job_states.specs.declared.transition.Transition.TheVariants.{Pause}
use Rattle.queue_model.specs.Chain.{◌>>=◌, ◌>>◌, when}
use Rattle.queue_model.specs.Held.{holds}
use Rattle.queue_model.specs.Map.{get}
use Rattle.queue_model.specs.Replay.{steps}
use Rattle.queue_model.specs.Sights.{Rows, sees}
use Rattle.queue_model.specs.World.{World}
use Rattle.queue_model.proofs.Steps.{steps_to, world_after}
use Rattle.plan_model.specs.Books.{Book}
use Rattle.plan_model.specs.GoodBook.{IsGoodBook, MayOpen}
use Rattle.plan_model.specs.Plans.{Plan}
use Rattle.book_core.specs.GoodPlan.{plan}
use Rattle.store_tests.proofs.books.open_pause.Goals as goal

named : (queue : List ℕ) → IsName queue → is_name queue ≡ true
named queue name = grind (arith, nat_tests)

abbrev paused : World → List ℕ → Rows
paused w queue = record ((sees w (holds w (Pause queue))).rows) { pause = Some tt }

abbrev pausing : List ℕ → Plan
pausing queue = plan (record { moment = 5; steps = Pause queue ∷ [] }) ((Queue queue, Alone) ∷ []) (Paused true queue)

-- a pause of a queue that isn't paused may be opened where nothing is open
may_pause : (b : Book) (seat : ℕ) (queue : List ℕ) → IsGoodBook b → get b.open_plans seat ≡ None → get b.world.paused queue ≡ None → IsName queue → MayOpen b seat (pausing queue)
may_pause b seat queue good vacant unpaused name = record {
  vacant = vacant;
  legal = (
    world_after b.world 5 (Pause queue) (paused b.world queue),
    record {
      legal = ap (λ o. o >>= (λ v. steps v 5 [])) (steps_to b.world 5 (Pause queue) (paused b.world queue) (named queue name) (ap (λ o. when (is_none o) >> Some (paused b.world queue)) unpaused));
      covered = (λ r mode held. inl held, λ v is. tt);
    },
  );
  told = record { made = refl; claimed = refl };
  few_claims = λ pid. let few = good.few_claims pid in omega (arith, few);
}

none_there : {X : Type 0} (o : Option X) → is_some o ≡ false → o ≡ None
none_there None e = refl
none_there (Some x) e = cc

pub open_plan-requires-clause-plan : goal.open_plan-requires-clause-plan
open_plan-requires-clause-plan g c =
    let b = c.args.book.now in
    let is_open : is_some (get b.open_plans c.args.seat) ≡ false = cc in
    let there : is_some (get c.tables.result.now.world.paused c.name-name.result) ≡ false = cc in
    let same : is_some (get c.tables.result.now.world.paused c.name-name.result) ≡ is_some (get b.world.paused c.args.queue.now) = (λ i. is_some (get (c.tables.ensures.same i).paused (c.name-name.ensures.same i))) in
    let is_paused : is_some (get b.world.paused c.args.queue.now) ≡ false = sym same ∙ there in
    rw c.pause-plan.ensures
    (may_pause b c.args.seat c.args.queue.now c.tables.ensures.good (none_there (get b.open_plans c.args.seat) is_open) (none_there (get b.world.paused c.args.queue.now) is_paused)
    (subst IsName c.name-name.ensures.same c.name-name.ensures.name))
