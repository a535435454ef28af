use Rattle.std.proofs.Common.{◌≡◌, List, map, take, rules, sym, subst, All}
use Rattle.std.specs.Prelude.{IsUtf8}
use Rattle.queue_model.specs.declared.Job.{Job}
use Rattle.plan_drafts.specs.Drafting.{with_draft}
use Rattle.plan_model.specs.Drafts.{begin, holding}
use Rattle.plan_model.specs.Orders.{on_offer}
use Rattle.plan_scenes.specs.Begun.{begun}
use Rattle.job_states.specs.declared.row.Mode.TheVariants.{Shared}
use Rattle.job_states.specs.declared.row.Row.TheVariants as row
use Rattle.claim_plans.specs.Polls.{CanClaim}
use Rattle.claim_plans.proofs.Claiming.{can_claim, have_texts}
use Rattle.claim_plans.proofs.poll.hand_out.Goals as goal

pub claim_all-requires : goal.claim_all-requires
claim_all-requires c =
    let s = c.args.scene.now in
    let pid = c.args.pid in
    let jobs : map (λ j. j.now) c.deref.result.now ≡ take c.args.limit (on_offer s.book c.args.items) = search rules in
    let held : c.hold.new.self ≡ with_draft (begun s) (holding (row.Process pid) Shared (begin s)) = search rules in
    subst (λ (xs : List Job). CanClaim c.hold.new.self pid xs) (sym jobs) (can_claim s c.is_good.ensures pid c.args.limit c.args.items c.requires.process c.requires.room c.hold.new.self held)

pub hand_over-requires : goal.hand_over-requires
hand_over-requires c =
    let s = c.args.scene.now in
    let jobs : map (λ j. j.now) c.deref-2.result.now ≡ take c.args.limit (on_offer s.book c.args.items) = search rules in
    subst (λ (xs : List Job). All (λ (j : Job). IsUtf8 j.row.envelope) xs) (sym jobs) (have_texts s c.is_good.ensures c.args.pid c.args.limit c.args.items)
