use Rattle.std.proofs.Common.{◌≡◌, ℕ, List, None, rules, ap, sym, ◌∙◌, refl, subst}
use Rattle.std.specs.Option.{option_copied}
use Rattle.job_states.specs.declared.transition.Transition.TheVariants.{Expire}
use Rattle.plan_model.specs.Drafts.{Draft}
use Rattle.plan_model.specs.Scenes.{Scene}
use Rattle.plan_model.specs.UpkeepCommands.{expire_case}
use Rattle.upkeep_plans.specs.Standing.{AreExpired}
use Rattle.upkeep_plans.specs.Taking.{MayTake, with_step}
use Rattle.upkeep_plans.proofs.StandingJobs.{keys_move, keys_pass, may_expire}
use Rattle.upkeep_plans.proofs.TakenCases.{ends, first_rest, no_first, stand, stays_full, takes_next}
use Rattle.upkeep_plans.proofs.expire.expire_each.Goals as goal

abbrev Stands : Scene → List (List ℕ) → Draft → Type 0
Stands s = AreExpired s

pub returns-then-is_full : goal.returns-then-is_full
returns-then-is_full c = stays_full expire_case Stands c.args.cases.now c.args.keys c.loop-key.cases c.loop-key.keys c.loop-key.invariant (sym c.if-is_full.true ∙ c.is_full.ensures)

pub take-requires : goal.take-requires
take-requires c =
    let t = c.loop-key.cases in
    let m = t.scene.moment in
    let x = c.in-Some.key.now in
    let ys = c.next_key.new.self in
    let h = c.loop-key.invariant in
    let are = first_rest x c.loop-key.keys ys (sym (ap option_copied c.in-Some.is) ∙ c.next_key.ensures.first) c.next_key.ensures.left in
    let st = stand expire_case Stands c.args.cases.now c.args.keys t c.loop-key.keys h x ys are in
    let e : c.in_ok-copy.field-0 ≡ x = search rules in
    subst (λ k. MayTake t (Expire k)) (sym e) (may_expire t h.taking x ys st)

pub loop-key-preserved : goal.loop-key-preserved
loop-key-preserved c =
    let t = c.loop-key.cases in
    let m = t.scene.moment in
    let x = c.in-Some.key.now in
    let ys = c.next_key.new.self in
    let h = c.loop-key.invariant in
    let are = first_rest x c.loop-key.keys ys (sym (ap option_copied c.in-Some.is) ∙ c.next_key.ensures.first) c.next_key.ensures.left in
    let e : c.in_ok-copy.field-0 ≡ x = search rules in
    takes_next expire_case Stands c.args.cases.now c.args.keys t c.loop-key.keys h x ys are c.take.new.self (Expire c.in-Some.key.now) (c.in_ok-take.ensures ∙ ap (λ k. with_step t (Expire k)) e) refl
    (λ d. keys_pass t.scene x ys d) (λ d. keys_move t.scene x ys d)

pub returns : goal.returns
returns c =
    let none : c.next_key.result ≡ None = search rules in
    ends expire_case Stands c.args.cases.now c.args.keys c.loop-key.cases c.loop-key.keys c.loop-key.invariant (no_first c.loop-key.keys (sym (ap option_copied none) ∙ c.next_key.ensures.first))
