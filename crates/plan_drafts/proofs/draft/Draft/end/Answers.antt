use Rattle.std.proofs.Common.{◌≡◌, Some, ap, sym, ◌∙◌, refl, subst}
use Rattle.std.proofs.lemmas.Result.{IfOk-weaker}
use Rattle.std.specs.Option.{option_copied}
use Rattle.job_states.specs.declared.transition.Transition.TheVariants.{Unblock}
use Rattle.queue_model.specs.GoodWorld.{IsGood}
use Rattle.plan_model.specs.Drafts as model
use Rattle.plan_model.specs.GoodDraft.{IsAllowed}
use Rattle.plan_model.specs.Orders as order
use Rattle.plan_drafts.specs.Drafting.{Drafting, GivesDraft}
use Rattle.plan_drafts.proofs.Ending.{ends_after, good_after, known_in_range, let_go_good}
use Rattle.plan_drafts.proofs.draft.Draft.end.Goals as goal

pub unblock-requires-clause-good : goal.unblock-requires-clause-good
unblock-requires-clause-good c =
    good_after c.args.self.now c.push.new.self c.args.step c.in_ok-push.ensures
    (c.moves_are_seen.ensures.good c.args.self.now.moment c.args.step c.args.self.now.draft c.requires.good c.began_well.ensures.moment
    (known_in_range c.args.self.now.begun.world c.args.step c.args.id c.began_well.ensures.good c.requires.known c.requires.end c.requires.named) c.requires.allowed)

pub unblock-requires-clause-ends : goal.unblock-requires-clause-ends
unblock-requires-clause-ends c = ends_after c.args.self.now c.push.new.self c.args.step c.in_ok-push.ensures c.requires.ends c.requires.end

pub unblock-requires-clause-allowed : goal.unblock-requires-clause-allowed
unblock-requires-clause-allowed c = λ j.
    let m = c.args.self.now.moment in
    let d = c.args.self.now.draft in
    let key = c.in-Some.key.now in
    subst (λ (v : Drafting). order.first_blocked v.draft.world key ≡ Some j → IsAllowed v.moment v.draft (Unblock j.row.id (model.generation_at v.draft key))) (sym c.in_ok-push.ensures)
    (λ first. c.ends_let_go.ensures.unblock m c.args.step d c.args.id c.requires.good c.began_well.ensures.moment c.requires.end c.requires.named c.requires.allowed key j
    (model.generation_at (model.push m c.args.step d) key) (sym c.key_given-key.ensures ∙ ap option_copied c.in-Some.is) first refl)

pub returns-in-Some-clause-good : goal.returns-in-Some-clause-good
returns-in-Some-clause-good c =
    let old = c.args.self.now in
    let key = c.in-Some.key.now in
    let given = sym (ap option_copied c.in-Some.is) ∙ c.key_given-key.ensures in
    let good = c.ends_let_go.ensures.good old.moment c.args.step old.draft c.args.id c.requires.good c.began_well.ensures.moment c.requires.end c.requires.named c.requires.allowed in
    IfOk-weaker c.unblock.result (GivesDraft c.push.new.self c.unblock.new.self (model.unblock c.push.new.self.moment (Some key) c.push.new.self.draft)) (λ _. IsGood c.unblock.new.self.draft.world)
    (λ x h. subst (λ (v : Drafting). IsGood v.draft.world) (sym h.draft) (let_go_good old c.push.new.self c.args.step c.in_ok-push.ensures c.args.id key given good))
    c.unblock.ensures.unblocked

pub returns-in-None-clause-good : goal.returns-in-None-clause-good
returns-in-None-clause-good c =
    good_after c.args.self.now c.push.new.self c.args.step c.in_ok-push.ensures
    (c.moves_are_seen.ensures.good c.args.self.now.moment c.args.step c.args.self.now.draft c.requires.good c.began_well.ensures.moment
    (known_in_range c.args.self.now.begun.world c.args.step c.args.id c.began_well.ensures.good c.requires.known c.requires.end c.requires.named) c.requires.allowed)

pub returns-in-None-clause-ends : goal.returns-in-None-clause-ends
returns-in-None-clause-ends c = ends_after c.args.self.now c.push.new.self c.args.step c.in_ok-push.ensures c.requires.ends c.requires.end
